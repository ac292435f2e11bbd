-- The new link names the device's session before it, and the maps of the latest session and the greatest DevNonce follow.
use Rattle.std.proofs.Common.{◌≡◌, ◌+◌, ◌∙◌, Some, ap, cond, length, nat_eq, sym}
use Rattle.std.specs.Prelude.{max}
use Rattle.std.specs.Option.{option_map_or, unwrap_or}
use Rattle.indexmap.specs.IndexMap.{get}
use Rattle.registry_core.specs.Derived.{last_nonce}
use Rattle.desk_store.specs.steps.Sessions.{sessions_of}
use Rattle.desk_store.specs.declared.sessions.Link.{Link}
use Rattle.desk_store.specs.steps.Sessions.{latest_of}
use Rattle.desk_store.proofs.Linked.{linked_more}
use Rattle.desk_store.proofs.sessions.Sessions.push.Goals as goal

pub invariant_of-self-2 : goal.invariant_of-self-2
invariant_of-self-2 c =
    let link : Link = record { session = c.args.session; before = c.latest-before.result } in
    let device : c.get-device.result ≡ c.args.session.device = c.get-device.ensures in
    let number : c.len.result + 1 ≡ length c.self.inside.links.items + 1 = ap (λ n. n + 1) (c.len.ensures ∙ c.self.inside.links.ok.0) in
    let sessions : c.make_room.new.self.items ≡ sessions_of c.self.inside.links.items = sym (ap (λ s. s.items) c.self.view_is) in
    let before : c.latest-before.result ≡ unwrap_or (get nat_eq c.self.inside.latest c.args.session.device) 0 =
    c.latest-before.ensures ∙ ap (λ items. latest_of items c.args.session.device) sessions ∙ sym (c.self.invariant.last c.args.session.device) in
    let nonce : c.nonce_with-nonce.result ≡ option_map_or (max c.args.session.nonce) (get nat_eq c.self.inside.nonces c.args.session.device) c.args.session.nonce =
    c.nonce_with-nonce.ensures
    ∙ ap (λ found. option_map_or (max c.args.session.nonce) found c.args.session.nonce)
    (ap (λ items. last_nonce items c.args.session.device) sessions ∙ sym (c.self.invariant.nonce c.args.session.device)) in
    rw c.in_ok-push.ensures.items
    (linked_more c.self.inside.links.items link (get nat_eq c.self.inside.latest) (get nat_eq c.self.inside.nonces) c.self.invariant before _ _
    (λ dev_eui. c.in_ok-insert.ensures.updates.0 dev_eui ∙ (λ i. cond (nat_eq (device i) dev_eui) (Some (number i)) (get nat_eq c.self.inside.latest dev_eui)))
    (λ dev_eui. c.in_ok-insert-2.ensures.updates.0 dev_eui ∙ (λ i. cond (nat_eq (device i) dev_eui) (Some (nonce i)) (get nat_eq c.self.inside.nonces dev_eui))))

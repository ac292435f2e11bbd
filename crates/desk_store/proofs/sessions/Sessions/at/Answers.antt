-- The links with their sessions alone are the list of sessions, so the item at a number is that link's session.
use Rattle.std.proofs.Common.{◌∙◌, sym, ap}
use Rattle.registry_core.specs.Numbered.{item_at}
use Rattle.desk_store.specs.declared.sessions.Link.{Link}
use Rattle.desk_store.proofs.Linked.{item_at-map}
use Rattle.desk_store.proofs.sessions.Sessions.at.Goals as goal

pub returns : goal.returns
returns c =
    let found = ap (λ links. item_at links c.args.number) (sym c.deref.ensures.value) ∙ sym c.item_at.ensures ∙ c.in_ok-item_at.was in
    sym (item_at-map (λ (link : Link). link.session) c.self.inside.links.items c.args.number c.in_ok-item_at.field-0 found)
    ∙ ap (λ sessions. item_at sessions.items c.args.number) c.self.view_is

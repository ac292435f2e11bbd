-- Two states that agree on an owner give the same report on it.
use Rattle.std.proofs.Common.{◌≡◌, ◌∙◌, ◌++◌, ℕ, List, ap, sym, subst, length}
use Rattle.std.specs.List.{flat_map}
use Rattle.radio_core.specs.declared.bands.Band.{Band}
use Rattle.duty_core.specs.Laws.{PeakIsUnique}
use Rattle.registry_core.specs.declared.facts.Uplink.{Uplink}
use Rattle.registry_core.specs.Reports.{IsUse, Use, in_band, uplinks_from}
use Rattle.desk_engine.specs.Reports.{OwnerReportsAgree, device_use_line, owner_header}
use Rattle.desk_engine.proofs.AirUse.{use_is_one}
use Rattle.desk_engine.proofs.RisingLists.{flat_same, same_rising}

-- the same uplinks make the same line
same_line : PeakIsUnique → (dev_eui : ℕ) (us vs : List Uplink) (f g : Band → Use) → us ≡ vs → ((band : Band) → IsUse (in_band band us) (f band)) → ((band : Band) → IsUse (in_band band vs) (g band))
    → device_use_line dev_eui (length us) f ≡ device_use_line dev_eui (length vs) g
same_line unique dev_eui us vs f g same of_f of_g =
    let uses : f ≡ g = λ i band. use_is_one unique (in_band band vs) (f band) (g band) (subst (λ l. IsUse (in_band band l) (f band)) same (of_f band)) (of_g band) i in
    ap (λ l. device_use_line dev_eui (length l) f) same ∙ ap (device_use_line dev_eui (length vs)) uses

pub owner_reports_agree : PeakIsUnique → OwnerReportsAgree
owner_reports_agree unique owner s t from to a b agree of_s of_t =
    let devices : of_s.devices ≡ of_t.devices = same_rising of_s.devices of_t.devices of_s.rising of_t.rising (λ d. of_s.owned d ∙ agree.owned d ∙ sym (of_t.owned d)) in
    let f : ℕ → List ℕ = λ d. device_use_line d (length (uplinks_from s.uplinks s.sessions d from to)) (of_s.used d) in
    let g : ℕ → List ℕ = λ d. device_use_line d (length (uplinks_from t.uplinks t.sessions d from to)) (of_t.used d) in
    let lines = flat_same f g of_s.devices (λ d there.
    same_line unique d (uplinks_from s.uplinks s.sessions d from to) (uplinks_from t.uplinks t.sessions d from to) (of_s.used d) (of_t.used d)
    (agree.uplinks d from to (sym (of_s.owned d) ∙ there)) (of_s.used_is d) (of_t.used_is d)) in
    of_s.text_is ∙ ap (λ l. owner_header ++ l) (lines ∙ ap (flat_map g) devices) ∙ sym of_t.text_is

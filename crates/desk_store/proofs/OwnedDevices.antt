-- The devices with their owners in order: what one device more changes.
use Rattle.std.proofs.Common.{◌≡◌, ℕ, Bool, true, false, cond, List, Some, None, refl, sym, ◌∙◌, ap}
use Rattle.std.specs.Prelude.{◌&&◌, bytes_eq, nat_eq}
use Rattle.std.specs.BTreeSet.{BTreeSet, contains}
use Rattle.std.specs.Cmp.{both_tied, unsigned_ties}
use Rattle.std.specs.Cmp.Lexicographic.{nat_list_eq_equiv, texts_ties}
use Rattle.std.specs.Ordering.{is_eq}
use Rattle.std.proofs.lemmas.Bool.{eqb-true}
use Rattle.registry_core.specs.declared.facts.Device.{Device}
use Rattle.desk_store.specs.declared.devices.Owned.{Owned}
use Rattle.desk_store.specs.Devices.{devices_of}
use Rattle.desk_store.specs.steps.Devices.{AreOwned, is_owned_by, owned_cmp}

and_false : (b : Bool) → (b && false) ≡ false
and_false true = refl
and_false false = refl

and_true : (b : Bool) → (b && true) ≡ b
and_true true = refl
and_true false = refl

owned_alike : (a b : Owned) → is_eq (owned_cmp a b) ≡ (bytes_eq a.owner b.owner && nat_eq a.dev_eui b.dev_eui)
owned_alike a b = sym (both_tied _ _ _ _ (texts_ties a.owner b.owner) (unsigned_ties a.dev_eui b.dev_eui))

-- pairs of two devices are two
apart_pair : (a b : Owned) → nat_eq a.dev_eui b.dev_eui ≡ false → is_eq (owned_cmp a b) ≡ false
apart_pair a b apart = owned_alike a b ∙ ap (λ d. bytes_eq a.owner b.owner && d) apart ∙ and_false (bytes_eq a.owner b.owner)

-- pairs of one device are one where their owners are
owners_pair : (a b : Owned) → nat_eq a.dev_eui b.dev_eui ≡ true → is_eq (owned_cmp a b) ≡ bytes_eq a.owner b.owner
owners_pair a b same = owned_alike a b ∙ ap (λ d. bytes_eq a.owner b.owner && d) same ∙ and_true (bytes_eq a.owner b.owner)

or_nothing : (b : Bool) → cond b true false ≡ b
or_nothing true = refl
or_nothing false = refl

or_itself : (b : Bool) → cond b true b ≡ b
or_itself true = refl
or_itself false = refl

-- of two owners one leaves and the other one comes
exchanged : (before now owner : List ℕ) (p q : Bool) → bytes_eq before owner ≡ p → bytes_eq now owner ≡ q → bytes_eq before now ≡ false
    → cond p false (cond q true p) ≡ q
exchanged before now owner true true left came apart =
    let one : bytes_eq before now ≡ true = nat_list_eq_equiv.congr before owner now left ∙ nat_list_eq_equiv.symm owner now ∙ came in
    let no : true ≡ false = sym one ∙ apart in cc
exchanged before now owner true false left came apart = refl
exchanged before now owner false true left came apart = refl
exchanged before now owner false false left came apart = refl

module _ (old new : List (ℕ × Device)) (dev_eui : ℕ) (device : Device) (was noted : BTreeSet Owned) (are : AreOwned old was)
    (put : (n : ℕ) → devices_of new n ≡ cond (nat_eq dev_eui n) (Some device) (devices_of old n))
    (with_pair : (pair : Owned) → contains owned_cmp noted pair
    ≡ cond (is_eq (owned_cmp (record { owner = device.owner; dev_eui = dev_eui }) pair)) true (contains owned_cmp was pair)) where
  other : (pair : Owned) → nat_eq dev_eui pair.dev_eui ≡ false → contains owned_cmp noted pair ≡ is_owned_by pair.owner (devices_of new pair.dev_eui)
  other pair apart = with_pair pair
      ∙ ap (λ b. cond b true (contains owned_cmp was pair)) (apart_pair (record { owner = device.owner; dev_eui = dev_eui }) pair apart)
      ∙ are.has pair
      ∙ ap (is_owned_by pair.owner) (sym (put pair.dev_eui ∙ ap (λ b. cond b (Some device) (devices_of old pair.dev_eui)) apart))

  its_owner : (pair : Owned) → nat_eq dev_eui pair.dev_eui ≡ true → is_owned_by pair.owner (devices_of new pair.dev_eui) ≡ bytes_eq device.owner pair.owner
  its_owner pair same = ap (is_owned_by pair.owner) (put pair.dev_eui ∙ ap (λ b. cond b (Some device) (devices_of old pair.dev_eui)) same)

  its_pair : (pair : Owned) → nat_eq dev_eui pair.dev_eui ≡ true
      → contains owned_cmp noted pair ≡ cond (bytes_eq device.owner pair.owner) true (is_owned_by pair.owner (devices_of old dev_eui))
  its_pair pair same = with_pair pair
      ∙ ap (λ b. cond b true (contains owned_cmp was pair)) (owners_pair (record { owner = device.owner; dev_eui = dev_eui }) pair same)
      ∙ ap (cond (bytes_eq device.owner pair.owner) true) (are.has pair
      ∙ ap (λ n. is_owned_by pair.owner (devices_of old n)) (sym (eqb-true dev_eui pair.dev_eui same)))

  put_by : ((owner : List ℕ) → cond (bytes_eq device.owner owner) true (is_owned_by owner (devices_of old dev_eui)) ≡ bytes_eq device.owner owner)
      → (pair : Owned) (b : Bool) → nat_eq dev_eui pair.dev_eui ≡ b → contains owned_cmp noted pair ≡ is_owned_by pair.owner (devices_of new pair.dev_eui)
  put_by kept pair true same = its_pair pair same ∙ kept pair.owner ∙ sym (its_owner pair same)
  put_by kept pair false apart = other pair apart

  -- a new device
  pub put_new : None ≡ devices_of old dev_eui → AreOwned new noted
  put_new none = record {
    has = λ pair. put_by (λ owner. ap (λ d. cond (bytes_eq device.owner owner) true (is_owned_by owner d)) (sym none) ∙ or_nothing (bytes_eq device.owner owner))
        pair _ refl;
  }

  -- a device whose owner stays
  pub put_kept : (before : Device) → Some before ≡ devices_of old dev_eui → before.owner ≡ device.owner → AreOwned new noted
  put_kept before there same = record {
    has = λ pair. put_by (λ owner. ap (λ d. cond (bytes_eq device.owner owner) true (is_owned_by owner d)) (sym there)
        ∙ ap (λ o. cond (bytes_eq device.owner owner) true (bytes_eq o owner)) same ∙ or_itself (bytes_eq device.owner owner)) pair _ refl;
  }

  module _ (before : Device) (there : Some before ≡ devices_of old dev_eui) (apart : bytes_eq before.owner device.owner ≡ false) (left : BTreeSet Owned)
      (without : (pair : Owned) → contains owned_cmp left pair
      ≡ cond (is_eq (owned_cmp (record { owner = before.owner; dev_eui = dev_eui }) pair)) false (contains owned_cmp noted pair)) where
    moved_by : (pair : Owned) (b : Bool) → nat_eq dev_eui pair.dev_eui ≡ b → contains owned_cmp left pair ≡ is_owned_by pair.owner (devices_of new pair.dev_eui)
    moved_by pair true same = without pair
        ∙ ap (λ b. cond b false (contains owned_cmp noted pair)) (owners_pair (record { owner = before.owner; dev_eui = dev_eui }) pair same)
        ∙ ap (cond (bytes_eq before.owner pair.owner) false) (its_pair pair same
        ∙ ap (λ d. cond (bytes_eq device.owner pair.owner) true (is_owned_by pair.owner d)) (sym there))
        ∙ exchanged before.owner device.owner pair.owner _ _ refl refl apart
        ∙ sym (its_owner pair same)
    moved_by pair false other_device = without pair
        ∙ ap (λ b. cond b false (contains owned_cmp noted pair)) (apart_pair (record { owner = before.owner; dev_eui = dev_eui }) pair other_device)
        ∙ other pair other_device

    -- a device that leaves one owner for another
    pub put_moved : AreOwned new left
    put_moved = record { has = λ pair. moved_by pair _ refl }

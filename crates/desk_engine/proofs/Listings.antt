-- Lists by what a store returns, and after a log by what the store represents.
use Rattle.std.proofs.Common.{◌≡◌, ◌∙◌, ◌+◌, ◌<◌, true, false, cond, ℕ, List, [], ◌∷◌, ◌++◌, Option, Some, None, ap, refl, sym, subst, length, map, arith}
use Rattle.std.specs.Prelude.{◌-◌, bytes_eq, codes, count_by, filter, option_and_then, option_map, sum_by}
use Rattle.std.specs.List.{flat_map}
use Rattle.std.specs.Option.{option_map_or}
use Rattle.std.specs.Fmt.{decimal}
use Rattle.std.proofs.lemmas.List.{append_assoc}
use Rattle.std.proofs.lemmas.List.Sums.{sum_by-cons}
use Rattle.registry_core.specs.declared.facts.Device.{Device}
use Rattle.registry_core.specs.declared.messages.Envelope.{Envelope}
use Rattle.radio_core.specs.Bands.{bands}
use Rattle.registry_core.specs.Bookings.{limit_standing, next_down}
use Rattle.registry_core.specs.Derived.{address_of, last_counter, last_nonce}
use Rattle.registry_core.specs.Heard.{answers_after, state_of}
use Rattle.registry_core.specs.Listing.{AreDevices, AreNames, has_device, last_start}
use Rattle.registry_core.specs.Numbered.{greatest}
use Rattle.registry_core.specs.Reports.{is_owned}
use Rattle.registry_core.specs.Settings.{Settings}
use Rattle.registry_core.specs.State.{State, opening}
use Rattle.registry_core.specs.Step.{step}
use Rattle.desk_store.specs.Kept.{Entry}
use Rattle.desk_store.specs.Looks.{is_from, last_transaction}
use Rattle.desk_wire.specs.Hexadecimal.{addr_digits}
use Rattle.desk_engine.specs.declared.lists.ListOf.{ListOf}
use Rattle.desk_engine.specs.declared.lists.ListOf.TheVariants.{Senders, Owners, Gateways, Devices}
use Rattle.desk_engine.specs.Lines.{line_feed}
use Rattle.desk_engine.specs.InOrder.{entries_of, entry_at, kept_after}
use Rattle.desk_engine.specs.Listing.{IsList, IsOwnerList, IsSenderList, device_text, gateway_line, last_heard, latest_of, or_empty, device_list_line, owner_line, owners_header, table_text}
use Rattle.desk_engine.specs.steps.Listing.{IsListOf, device_list_columns, owner_in, owners_in, session_columns, sessions_text}

-- ---- owners

count_owner : (owner : List ℕ) (device : Option Device) (others : List (List ℕ)) → let by : List ℕ → ℕ = λ other. cond (bytes_eq other owner) 1 0 in
    sum_by by (owner_in device ++ others) ≡ cond (option_map_or (λ (d : Device). bytes_eq d.owner owner) device false) 1 0 + sum_by by others
count_owner owner None others = omega arith
count_owner owner (Some device) others = sum_by-cons (λ other. cond (bytes_eq other owner) 1 0) device.owner others

-- how many of the owners are this one: as many as its devices
counted : (s : State) (owner : List ℕ) (devices : List ℕ) → count_by (λ other. bytes_eq other owner) (owners_in s devices) ≡ count_by (is_owned s owner) devices
counted s owner [] = refl
counted s owner (d ∷ ds) =
    count_owner owner (s.devices d) (owners_in s ds) ∙ ap (λ n. cond (is_owned s owner d) 1 0 + n) (counted s owner ds)
    ∙ sym (sum_by-cons (λ dev_eui. cond (is_owned s owner dev_eui) 1 0) d ds)

pub owner_list : (s : State) (names shown owners : List (List ℕ)) (devices text : List ℕ) → AreNames s.owners names → AreDevices (has_device s) devices → owners ≡ owners_in s devices
    → shown ≡ names → text ≡ table_text owners_header (λ name. owner_line name (count_by (λ other. bytes_eq other name) owners)) shown → IsOwnerList s text
owner_list s names shown owners devices text are devices_are owners_are same is = record {
  names = names;
  names_are = are;
  devices = devices;
  devices_are = devices_are;
  text_is = is ∙ ap (table_text owners_header (λ name. owner_line name (count_by (λ other. bytes_eq other name) owners))) same
      ∙ (λ i. table_text owners_header (λ owner. owner_line owner ((ap (count_by (λ other. bytes_eq other owner)) owners_are ∙ counted s owner devices) i)) names);
}

-- ---- gateways

pub limits_are : (s : State) (name shown text new : List ℕ) → shown ≡ name → text ≡ table_text shown (λ band. codes "," ++ decimal (limit_standing s name band)) bands
    → new ≡ text ++ line_feed ∷ [] → new ≡ gateway_line s name
unfolding gateway_line
limits_are s name shown text new shown_is text_is new_is =
    let columns : List ℕ = flat_map (λ band. codes "," ++ decimal (limit_standing s name band)) bands in
    new_is ∙ ap (λ l. l ++ line_feed ∷ []) (text_is ∙ ap (λ l. l ++ columns) shown_is) ∙ append_assoc name columns (line_feed ∷ [])

-- ---- devices

next_is : (f : ℕ → ℕ) (o : Option ℕ) → or_empty decimal (option_map f o) ≡ or_empty (λ n. decimal (f n)) o
next_is f None = refl
next_is f (Some n) = refl

pub line_is : (c : Settings) (s : State) (dev_eui : ℕ) (device : Device) (sessions rest text : List ℕ) → rest ≡ sessions_text c s dev_eui sessions → text ≡ device_list_columns dev_eui device rest
    → text ≡ device_list_line c s dev_eui device sessions
unfolding device_list_line
line_is c s dev_eui device sessions rest text rest_is is =
    let latest : Option ℕ = latest_of sessions in
    is ∙ ap (device_list_columns dev_eui device) rest_is
    ∙ ap (λ l. device_list_columns dev_eui device (session_columns (length sessions) (or_empty (λ n. addr_digits (address_of c n)) latest) (or_empty decimal (last_nonce s.sessions dev_eui))
    (or_empty decimal (option_and_then (last_counter s.uplinks) latest) ++ (codes "," ++ (l ++ (codes "," ++ (or_empty decimal (option_and_then (last_start s.uplinks) latest) ++ line_feed ∷ [])))))))
    (next_is (next_down s.bookings s.uplinks) latest)

-- ---- after a log

numbers_of : (c : Settings) (name : List ℕ) (s : State) (heard : List Envelope)
    → map (λ (entry : Entry). entry.transaction) (filter (is_from name) (map (entry_at c) (answers_after c s heard))) ≡ map (λ (e : Envelope). e.transaction) (filter (λ (e : Envelope). bytes_eq e.sender name) heard)
numbers_of c name s [] = refl
numbers_of c name s (e ∷ es) =
    elim (bytes_eq e.sender name) as (λ b.
    map (λ (entry : Entry). entry.transaction) (cond b (entry_at c (e, (step c s e).1) ∷ filter (is_from name) (map (entry_at c) (answers_after c (step c s e).0 es))) (filter (is_from name) (map (entry_at c) (answers_after c (step c s e).0 es))))
    ≡ map (λ (e : Envelope). e.transaction) (cond b (e ∷ filter (λ (e : Envelope). bytes_eq e.sender name) es) (filter (λ (e : Envelope). bytes_eq e.sender name) es))) [
      | true ↦ ap (λ l. e.transaction ∷ l) (numbers_of c name (step c s e).0 es)
      | false ↦ numbers_of c name (step c s e).0 es
    ]

-- the last transaction by the entries is that by the messages heard
last_is : (c : Settings) (heard : List Envelope) (name : List ℕ) → last_transaction (entries_of c heard) name ≡ last_heard heard name
last_is c heard name = ap greatest (numbers_of c name (opening c) heard)

same_settings : (of : ListOf) (c d : Settings) (heard : List Envelope) (text : List ℕ) → c ≡ d → IsListOf of d (kept_after c heard) text → IsListOf of c (kept_after c heard) text
same_settings of c d heard text its is = subst (λ x. IsListOf of x (kept_after c heard) text) (sym its) is

of_log : (of : ListOf) (c : Settings) (heard : List Envelope) (text : List ℕ) → IsListOf of c (kept_after c heard) text → IsList of c heard text
unfolding kept_after
of_log Senders c heard text is = subst (λ last. IsSenderList (state_of c heard) last text) (λ i name. last_is c heard name i) is
of_log Owners c heard text is = is
of_log Gateways c heard text is = is
of_log Devices c heard text is = is

-- the list of what a store represents after a log is the list after the log
pub list_after : (of : ListOf) (c d : Settings) (heard : List Envelope) (text : List ℕ) → c ≡ d → IsListOf of d (kept_after c heard) text → IsList of c heard text
list_after of c d heard text its is = of_log of c heard text (same_settings of c d heard text its is)

-- ---- a device after a log

pub facts_after : (c : Settings) (heard : List Envelope) → (kept_after c heard).facts ≡ state_of c heard
unfolding kept_after
facts_after c heard = refl

pub text_after : (c d : Settings) (heard : List Envelope) (text shown : List ℕ) → c ≡ d → shown ≡ device_text d (kept_after c heard).facts text → shown ≡ device_text c (state_of c heard) text
unfolding kept_after
text_after c d heard text shown its is = is ∙ ap (λ x. device_text x (state_of c heard) text) (sym its)

-- Records of a gateway's report, one read after another.
use Rattle.std.proofs.Common.{◌≡◌, ◌∙◌, ◌<◌, ◌+◌, ◌-◌, inl, ℕ, suc, Bor, Bool, true, false, List, [], ◌∷◌, ◌++◌, Some, None, Option, Result, Ok, Err, refl, ap, sym, nat_lt, if◌then◌else◌, arith}
use Rattle.std.proofs.lemmas.List.{append-nil, append_assoc}
use Rattle.csv.proofs.ReadFacts.{rows-end, rows-more}
use Rattle.csv.specs.Machine.{next_record}
use Rattle.csv.specs.Reading.{Reached, ReadRecord, default_config, records_from, source_of, took_first}
use Rattle.csv.specs.declared.parser.State.{State}
use Rattle.csv.specs.declared.reader.Reader.{Reader}
use Rattle.registry_core.specs.declared.messages.Envelope.{Envelope}
use Rattle.desk_wire.specs.CsvReports.{envelope_in, envelopes_from, with_first}
use Rattle.desk_wire.specs.steps.CsvReports.{IsReading, next_records, octets_known, rows_left}
use Rattle.desk_wire.specs.declared.csv_faults.CsvFault.{CsvFault}
use Rattle.desk_wire.specs.declared.csv_faults.CsvFault.TheVariants.{Size, Record}

-- ---- what is left to be read

more_of : (n : ℕ) (s : State) (octets : List ℕ) (fields : List (List ℕ)) (t : State) (rest : List ℕ) → Reached default_config s octets (fields ∷ []) t rest
    → records_from default_config (suc n) s octets ≡ fields ∷ records_from default_config n t rest
unfolding Reached records_from
more_of n s octets fields t rest reached = rw (reached.1, reached.2, ← reached.3.0, ← reached.3.1) refl

none_of : (n : ℕ) (s : State) (octets : List ℕ) → next_record default_config s [] [] octets ≡ None → records_from default_config (suc n) s octets ≡ []
unfolding records_from
none_of n s octets none = rw none refl

start : (s : State) (octets : List ℕ) → Reached default_config s octets [] s octets
unfolding Reached
start s octets = (refl, refl)

left_more : (n : ℕ) (a b : Reader (Bor (List ℕ))) (fields : List (List ℕ)) → IsReading a → ReadRecord octets_known a b true fields
    → rows_left (suc n) a ≡ fields ∷ rows_left n b
left_more n a b fields reading read =
    let octets = reading.known.0 in
    let next = rows-more octets_known a b fields default_config a.state octets octets [] reading.config reading.known.1 (start a.state octets) read in
    ap (next_records (suc n) a.state) reading.known.1 ∙ more_of n a.state octets fields b.state next.0 next.2 ∙ sym (ap (λ (known : Option (List ℕ)). fields ∷ next_records n b.state known) next.1)

left_known : (a b : Reader (Bor (List ℕ))) (fields : List (List ℕ)) → IsReading a → ReadRecord octets_known a b true fields
    → (octets : List ℕ) × (source_of octets_known b ≡ Some octets)
left_known a b fields reading read =
    let octets = reading.known.0 in
    let next = rows-more octets_known a b fields default_config a.state octets octets [] reading.config reading.known.1 (start a.state octets) read in
    (next.0, next.1)

left_none : (n : ℕ) (a b : Reader (Bor (List ℕ))) (fields : List (List ℕ)) → IsReading a → ReadRecord octets_known a b false fields
    → rows_left (suc n) a ≡ []
left_none n a b fields reading read =
    ap (next_records (suc n) a.state) reading.known.1
    ∙ none_of n a.state reading.known.0 (rows-end octets_known a b fields default_config reading.known.0 reading.config reading.known.1 read)

pub left_step : (n : ℕ) (a b : Reader (Bor (List ℕ))) (found : Bool) (fields : List (List ℕ)) → IsReading a → ReadRecord octets_known a b found fields
    → rows_left (suc n) a ≡ (if found then fields ∷ rows_left n b else [])
left_step n a b true fields reading read = left_more n a b fields reading read
left_step n a b false fields reading read = left_none n a b fields reading read

pub still_reading : (a b : Reader (Bor (List ℕ))) (found : Bool) (fields : List (List ℕ)) → IsReading a → ReadRecord octets_known a b found fields
    → took_first b ≡ true → found ≡ true → IsReading b
still_reading a b true fields reading read first is =
    record { config = read.2 ∙ reading.config; trim = read.3 ∙ reading.trim; ready = inl first; known = left_known a b fields reading read }
still_reading a b false fields reading read first is = cc is

-- ---- envelopes after those that were read

abbrev pub after : List Envelope → Result (List Envelope) CsvFault → Result (List Envelope) CsvFault
after es (Ok more) = Ok (es ++ more)
after es (Err fault) = Err fault

after_first : (es : List Envelope) (e : Envelope) (rest : Result (List Envelope) CsvFault) → after es (with_first e rest) ≡ after (es ++ e ∷ []) rest
after_first es e (Ok more) = ap (λ (l : List Envelope). Ok l) (sym (append_assoc es (e ∷ []) more))
after_first es e (Err fault) = refl

after_none : (es : List Envelope) (sender : List ℕ) (n : ℕ) → after es (envelopes_from sender n []) ≡ Ok es
unfolding envelopes_from
after_none es sender n = ap (λ (l : List Envelope). Ok l) (append-nil es)

few : (n : ℕ) → n < 100002 → nat_lt 100001 n ≡ false
few n h = grind (arith)

after_more : (es : List Envelope) (sender : List ℕ) (n : ℕ) (fields : List (List ℕ)) (rest : List (List (List ℕ))) (e : Envelope) → n < 100002 → envelope_in sender fields ≡ Some e
    → after es (envelopes_from sender n (fields ∷ rest)) ≡ after (es ++ e ∷ []) (envelopes_from sender (n + 1) rest)
unfolding envelopes_from
after_more es sender n fields rest e h is = rw (few n h, is) (after_first es e (envelopes_from sender (n + 1) rest))

after_bad : (es : List Envelope) (sender : List ℕ) (n : ℕ) (fields : List (List ℕ)) (rest : List (List (List ℕ))) → n < 100002 → envelope_in sender fields ≡ None
    → after es (envelopes_from sender n (fields ∷ rest)) ≡ Err (Record n)
unfolding envelopes_from
after_bad es sender n fields rest h is = rw (few n h, is) refl

after_too_many : (es : List Envelope) (sender : List ℕ) (fields : List (List ℕ)) (rest : List (List (List ℕ))) → after es (envelopes_from sender 100002 (fields ∷ rest)) ≡ Err Size
unfolding envelopes_from
after_too_many es sender fields rest = refl

-- ---- the loop: the envelopes so far, and those of the records that are left; `left` has the next n of these

abbrev pub Rows : Type 0
Rows = List (List (List ℕ))

one_less : (n : ℕ) → n < 100002 → 100003 - n ≡ suc (100002 - n)
one_less n h = omega (arith, h)

same_left : (n : ℕ) → n < 100002 → 100002 - n ≡ 100003 - (n + 1)
same_left n h = omega (arith, h)

module _ (sender : List ℕ) (es : List Envelope) (number : ℕ) (left : ℕ → Rows) (wanted : Result (List Envelope) CsvFault) where
  pub loop_ends : number < 100002 → wanted ≡ after es (envelopes_from sender number (left (100003 - number))) → ((n : ℕ) → left (suc n) ≡ []) → wanted ≡ Ok es
  loop_ends below was none =
      was ∙ ap (λ (r : Rows). after es (envelopes_from sender number r)) (ap left (one_less number below) ∙ none (100002 - number)) ∙ after_none es sender number

  pub loop_refuses : (fields : List (List ℕ)) (next : ℕ → Rows) → number < 100002 → wanted ≡ after es (envelopes_from sender number (left (100003 - number)))
      → ((n : ℕ) → left (suc n) ≡ fields ∷ next n) → envelope_in sender fields ≡ None → wanted ≡ Err (Record number)
  loop_refuses fields next below was some is =
      was ∙ ap (λ (r : Rows). after es (envelopes_from sender number r)) (ap left (one_less number below) ∙ some (100002 - number)) ∙ after_bad es sender number fields (next (100002 - number)) below is

  pub loop_goes_on : (fields : List (List ℕ)) (next : ℕ → Rows) (e : Envelope) → number < 100002 → wanted ≡ after es (envelopes_from sender number (left (100003 - number)))
      → ((n : ℕ) → left (suc n) ≡ fields ∷ next n) → envelope_in sender fields ≡ Some e
      → wanted ≡ after (es ++ e ∷ []) (envelopes_from sender (number + 1) (next (100003 - (number + 1))))
  loop_goes_on fields next e below was some is =
      was ∙ ap (λ (r : Rows). after es (envelopes_from sender number r)) (ap left (one_less number below) ∙ some (100002 - number))
      ∙ after_more es sender number fields (next (100002 - number)) e below is
      ∙ ap (λ (m : ℕ). after (es ++ e ∷ []) (envelopes_from sender (number + 1) (next m))) (same_left number below)

  at_last : number ≡ 100002 → after es (envelopes_from sender number (left (100003 - number))) ≡ after es (envelopes_from sender 100002 (left 1))
  at_last is = rw is refl

  pub loop_overflows : (fields : List (List ℕ)) (next : ℕ → Rows) → number ≡ 100002 → wanted ≡ after es (envelopes_from sender number (left (100003 - number)))
      → ((n : ℕ) → left (suc n) ≡ fields ∷ next n) → wanted ≡ Err Size
  loop_overflows fields next is was some =
      was ∙ at_last is ∙ ap (λ (r : Rows). after es (envelopes_from sender 100002 r)) (some 0) ∙ after_too_many es sender fields (next 0)

  pub loop_ends_full : number ≡ 100002 → wanted ≡ after es (envelopes_from sender number (left (100003 - number))) → ((n : ℕ) → left (suc n) ≡ []) → wanted ≡ Ok es
  loop_ends_full is was none =
      was ∙ at_last is ∙ ap (λ (r : Rows). after es (envelopes_from sender 100002 r)) (none 0) ∙ after_none es sender 100002

-- Lines of a log that are written one after another: how much is written when a write fails, and when there are no more.
use Rattle.std.proofs.Common.{◌≡◌, ℕ, zero, suc, ◌+◌, ◌-◌, ◌≤◌, ◌<◌, List, [], ◌∷◌, ◌++◌, length, map, take, drop, Option, Some, None, option_map, refl, ap, sym, subst, ◌∙◌, arith, append_assoc, append-nil, take-append-drop}
use Rattle.std.specs.List.{slice_get}
use Rattle.std.specs.Prelude.{true, false, OnErr, OnOk, Result, Ok, Err}
use Rattle.std.specs.Result.{is_err}
use Rattle.std.proofs.Common.{true≢false}
use Rattle.std.specs.Io.KnownBytes.{Appends, Keeps}
use Rattle.std.proofs.KnownBytes.{Appends-nil, Appends-trans}
use Rattle.std.proofs.lemmas.List.{drop-map, length-take-le, take-map, take_all, take_rest}
use Rattle.std.proofs.lemmas.Option.{slice_get-map, slice_get_within}
use Rattle.registry_core.specs.declared.answers.Answer.{Answer as Answered}
use Rattle.registry_core.specs.declared.messages.Envelope.{Envelope}
use Rattle.registry_core.specs.Heard.{answers_after, answers_of}
use Rattle.registry_core.specs.Numbered.{item_at}
use Rattle.registry_core.specs.Settings.{Settings}
use Rattle.registry_core.specs.State.{State, opening}
use Rattle.registry_core.specs.Step.{step}
use Rattle.desk_store.specs.declared.faults.StoreFault.{StoreFault}
use Rattle.desk_store.specs.Calls.{IsUnavailability}
use Rattle.desk_store.specs.Kept.{Entry}
use Rattle.desk_wire.specs.Writing.{message_text}
use Rattle.desk_engine.specs.declared.log.LogEnd.TheVariants.{Done, Write, Unavailable}
use Rattle.desk_engine.specs.declared.log.LogText.{LogText}
use Rattle.desk_engine.specs.declared.log.LogText.TheVariants.{Message, Answer}
use Rattle.desk_engine.specs.InOrder.{entry_at, kept_after}
use Rattle.desk_engine.specs.Lines.{input_of, line_feed}
use Rattle.desk_engine.specs.Log.{LogEndBy, log_of, numbered_from}
use Rattle.desk_engine.specs.steps.Logs.{HasWrittenLines, entry_text, log_line, log_lines}

-- ---- results

pub of_err : {X E P : Type 0} (r : Result X E) → is_err r ≡ true → OnErr r P → P
of_err (Ok x) is h = absurd (true≢false (sym is))
of_err (Err e) is h = h

pub of_ok : {X E P : Type 0} (r : Result X E) → is_err r ≡ false → OnOk r P → P
of_ok (Ok x) is h = h
of_ok (Err e) is h = absurd (true≢false is)

-- ---- octets of a line

pub keeps_written : (a b c : Option (List ℕ)) (bs : List ℕ) → Appends a b bs → Keeps b c → Appends a c bs
keeps_written None b c bs p q = tt
keeps_written (Some x) None c bs p q = absurd p
keeps_written (Some x) (Some y) None bs p q = absurd q
keeps_written (Some x) (Some y) (Some z) bs p q = q ∙ p

-- those that are done, and of the rest some more
pub parts_on : (octets done rest : List ℕ) (count : ℕ) → octets ≡ done ++ rest → octets ≡ (done ++ take count rest) ++ drop count rest
parts_on octets done rest count is = is ∙ ap (λ l. done ++ l) (sym (take-append-drop count rest)) ∙ sym (append_assoc done (take count rest) (drop count rest))

pub moved : (all done rest : List ℕ) (n : ℕ) → all ≡ done ++ rest → all ≡ (done ++ take n rest) ++ take (length rest - n) (drop n rest)
moved all done rest n is = parts_on all done rest n is ∙ ap (λ l. (done ++ take n rest) ++ l) (sym (take_rest rest n))

take_front : (xs ys : List ℕ) → take (length xs) (xs ++ ys) ≡ xs
take_front [] ys = refl
take_front (x ∷ xs) ys = ap (λ l. x ∷ l) (take_front xs ys)

-- what is done is a beginning
pub part_of : (a b : Option (List ℕ)) (octets done rest : List ℕ) → octets ≡ done ++ rest → Appends a b done → (count : ℕ) × Appends a b (take count octets)
part_of a b octets done rest is written = (length done, subst (Appends a b) (sym (ap (take (length done)) is ∙ take_front done rest)) written)

-- nothing more is written of the rest
pub part_kept : (a b c : Option (List ℕ)) (octets done rest : List ℕ) → octets ≡ done ++ rest → Appends a b done → Keeps b c → (count : ℕ) × Appends a c (take count octets)
part_kept a b c octets done rest is written kept = part_of a c octets done rest is (keeps_written a b c done written kept)

pub part_grown : (a b c : Option (List ℕ)) (octets done rest : List ℕ) (more : ℕ) → octets ≡ done ++ rest → Appends a b done → Appends b c (take more rest) → (count : ℕ) × Appends a c (take count octets)
part_grown a b c octets done rest more is written grown =
    part_of a c octets (done ++ take more rest) (drop more rest) (parts_on octets done rest more is) (Appends-trans a b c done (take more rest) written grown)

pub whole_of : (a b : Option (List ℕ)) (octets done rest : List ℕ) → octets ≡ done ++ rest → rest ≡ [] → Appends a b done → Appends a b octets
whole_of a b octets done rest is none written = subst (Appends a b) (sym (is ∙ ap (λ l. done ++ l) none ∙ append-nil done)) written

-- ---- lines

input_rest : (xs : List (List ℕ)) (rest : List ℕ) → input_of xs rest ≡ input_of xs [] ++ rest
input_rest [] rest = refl
input_rest (x ∷ xs) rest = ap (λ l. x ++ line_feed ∷ l) (input_rest xs rest) ∙ sym (append_assoc x (line_feed ∷ input_of xs []) rest)

input_more : (xs : List (List ℕ)) (line : List ℕ) → input_of (xs ++ line ∷ []) [] ≡ input_of xs [] ++ (line ++ line_feed ∷ [])
input_more [] line = refl
input_more (x ∷ xs) line = ap (λ l. x ++ line_feed ∷ l) (input_more xs line) ∙ sym (append_assoc x (line_feed ∷ input_of xs []) (line ++ line_feed ∷ []))

-- the line at a place, and the lines before and after it
split_at : (lines : List (List ℕ)) (n : ℕ) (line : List ℕ) → slice_get lines n ≡ Some line
    → (take (suc n) lines ≡ take n lines ++ line ∷ []) × (lines ≡ take n lines ++ line ∷ drop (suc n) lines)
split_at [] n line is = absurd (let no : ◌≡◌ {A = Option (List ℕ)} None (Some line) = is in cc)
split_at (x ∷ lines) zero line is = let same : x ≡ line = cc in (ap (λ l. l ∷ []) same, ap (λ l. l ∷ lines) same)
split_at (x ∷ lines) (suc n) line is = let it = split_at lines n line is in (ap (λ l. x ∷ l) it.0, ap (λ l. x ∷ l) it.1)

none_past : (lines : List (List ℕ)) (n : ℕ) → slice_get lines n ≡ None → length lines ≤ n
none_past [] n is = omega arith
none_past (x ∷ lines) zero is = absurd (let no : ◌≡◌ {A = Option (List ℕ)} (Some x) None = is in cc)
none_past (x ∷ lines) (suc n) is = omega (arith, none_past lines n is)

module _ (lines : List (List ℕ)) (before : Option (List ℕ)) where
  pub none_written : HasWrittenLines lines before before 0
  none_written = record { count_is = refl; written = Appends-nil before }

  -- one line more
  pub line_written : (mid after : Option (List ℕ)) (count : ℕ) (line : List ℕ) → HasWrittenLines lines before mid count → slice_get lines count ≡ Some line
      → Appends mid after (line ++ line_feed ∷ []) → HasWrittenLines lines before after (count + 1)
  line_written mid after count line has at more =
      let next : count + 1 ≡ suc count = omega arith in
      let within = slice_get_within lines count line at in
      let grown : take (count + 1) lines ≡ take count lines ++ line ∷ [] = ap (λ n. take n lines) next ∙ (split_at lines count line at).0 in
      record {
        count_is = length-take-le (count + 1) lines (omega (arith, within));
        written = subst (Appends before after) (sym (ap (λ l. input_of l []) grown ∙ input_more (take count lines) line)) (Appends-trans before mid after _ _ has.written more);
      }

  -- all of them
  pub all_written : (after : Option (List ℕ)) (count : ℕ) → HasWrittenLines lines before after count → length lines ≤ count → LogEndBy lines before after (Done count)
  all_written after count has long =
      let whole : take count lines ≡ lines = take_all count lines long in
      (subst (λ l. Appends before after (input_of l [])) whole has.written, sym has.count_is ∙ ap length whole)

  -- a part of the line at a place
  pub part_written : (mid after : Option (List ℕ)) (count : ℕ) (line : List ℕ) → HasWrittenLines lines before mid count → slice_get lines count ≡ Some line
      → (octets : ℕ) × Appends mid after (take octets (line ++ line_feed ∷ [])) → LogEndBy lines before after Write
  part_written mid after count line has at part = record {
    done = take count lines;
    line = line;
    more = drop (suc count) lines;
    octets = part.0;
    lines_are = (split_at lines count line at).1;
    written = subst (Appends before after) (sym (input_rest (take count lines) (take part.0 (line ++ line_feed ∷ [])))) (Appends-trans before mid after _ _ has.written part.1);
  }

  pub whole_written : (after : Option (List ℕ)) (count : ℕ) (fault : StoreFault) → HasWrittenLines lines before after count → IsUnavailability fault → LogEndBy lines before after (Unavailable fault)
  whole_written after count fault has why =
      (record { done = take count lines; more = drop count lines; lines_are = sym (take-append-drop count lines); written = has.written }, why)

-- ---- the line of a number

get_drop : {X : Type 0} (n : ℕ) (xs : List X) (count : ℕ) → slice_get (drop n xs) count ≡ slice_get xs (n + count)
get_drop zero xs count = let same : count ≡ 0 + count = omega arith in ap (slice_get xs) same
get_drop (suc n) [] count = refl
get_drop (suc n) (x ∷ xs) count = let same : suc (n + count) ≡ suc n + count = omega arith in get_drop n xs count ∙ ap (slice_get (x ∷ xs)) same

get_take : {X : Type 0} (most : ℕ) (xs : List X) (count : ℕ) → count < most → slice_get (take most xs) count ≡ slice_get xs count
get_take zero xs count below = absurd (omega (arith, below))
get_take (suc most) [] count below = refl
get_take (suc most) (x ∷ xs) zero below = refl
get_take (suc most) (x ∷ xs) (suc count) below = get_take most xs count (omega (arith, below))

module _ (which : LogText) (from most count : ℕ) (entries : List Entry) where
  at_number : (before after : Option (List ℕ)) → HasWrittenLines (log_lines which from most entries) before after count → count < most
      → slice_get (log_lines which from most entries) count ≡ option_map (entry_text which) (item_at entries (from + count))
  at_number before after has below = slice_get-map (entry_text which) (numbered_from from most entries) count ∙ ap (option_map (entry_text which)) (go from (has.count_is))
    where
      go : (from : ℕ) → length (take count (log_lines which from most entries)) ≡ count → slice_get (numbered_from from most entries) count ≡ item_at entries (from + count)
      go zero long = nothing count long
        where
          nothing : (n : ℕ) → length (take n (log_lines which zero most entries)) ≡ n → slice_get (numbered_from zero most entries) n ≡ item_at entries (zero + n)
          nothing zero long = let same : 0 ≡ 0 + 0 = omega arith in ap (item_at entries) same
          nothing (suc n) long = absurd (let no : 0 ≡ suc n = long in omega (arith, no))
      go (suc n) long =
          let same : suc (n + count) ≡ suc n + count = omega arith in
          get_take most (drop n entries) count below ∙ get_drop n entries count ∙ ap (item_at entries) same

  -- the line that was read is the next
  pub next_line : (before after : Option (List ℕ)) (line : List ℕ) → HasWrittenLines (log_lines which from most entries) before after count → count < most
      → Some line ≡ option_map (log_line which) (item_at entries (from + count))
      → (text : List ℕ) × (slice_get (log_lines which from most entries) count ≡ Some text) × (line ≡ text ++ line_feed ∷ [])
  next_line before after line has below is = go (item_at entries (from + count)) (at_number before after has below) is
    where
      go : (o : Option Entry) → slice_get (log_lines which from most entries) count ≡ option_map (entry_text which) o → Some line ≡ option_map (log_line which) o
          → (text : List ℕ) × (slice_get (log_lines which from most entries) count ≡ Some text) × (line ≡ text ++ line_feed ∷ [])
      go None at none = absurd (let no : ◌≡◌ {A = Option (List ℕ)} (Some line) None = none in cc)
      go (Some entry) at some = (entry_text which entry, at, cc)

  -- no line was there
  pub no_line : (before after : Option (List ℕ)) → HasWrittenLines (log_lines which from most entries) before after count → count < most
      → None ≡ option_map (log_line which) (item_at entries (from + count)) → length (log_lines which from most entries) ≤ count
  no_line before after has below is = none_past (log_lines which from most entries) count (at_number before after has below ∙ go (item_at entries (from + count)) is)
    where
      go : (o : Option Entry) → None ≡ option_map (log_line which) o → option_map (entry_text which) o ≡ None
      go None none = refl
      go (Some entry) some = absurd (let no : ◌≡◌ {A = Option (List ℕ)} None (Some (log_line which entry)) = some in cc)

-- no more lines than are asked for
long_take : {X : Type 0} (most : ℕ) (xs : List X) → length (take most xs) ≤ most
long_take zero xs = omega arith
long_take (suc most) [] = omega arith
long_take (suc most) (x ∷ xs) = omega (arith, long_take most xs)

length_mapped : {X Y : Type 0} (f : X → Y) (xs : List X) → length (map f xs) ≡ length xs
length_mapped f [] = refl
length_mapped f (x ∷ xs) = ap suc (length_mapped f xs)

pub few_lines : (which : LogText) (from most : ℕ) (entries : List Entry) → length (log_lines which from most entries) ≤ most
few_lines which zero most entries = omega arith
few_lines which (suc n) most entries = omega (arith, length_mapped (entry_text which) (take most (drop n entries)), long_take most (drop n entries))

-- ---- the entries of a log

numbered_map : {X Y : Type 0} (f : X → Y) (from most : ℕ) (xs : List X) → numbered_from from most (map f xs) ≡ map f (numbered_from from most xs)
numbered_map f zero most xs = refl
numbered_map f (suc n) most xs = ap (take most) (drop-map f n xs) ∙ take-map f most (drop n xs)

mapped_twice : {X Y Z : Type 0} (f : Y → Z) (g : X → Y) (xs : List X) → map f (map g xs) ≡ map (λ x. f (g x)) xs
mapped_twice f g [] = refl
mapped_twice f g (x ∷ xs) = ap (λ l. f (g x) ∷ l) (mapped_twice f g xs)

envelopes_of : (c : Settings) (s : State) (heard : List Envelope) → map (λ (x : Envelope × Answered). x.0) (answers_after c s heard) ≡ heard
envelopes_of c s [] = refl
envelopes_of c s (e ∷ es) = ap (λ l. e ∷ l) (envelopes_of c (step c s e).0 es)

pub lines_of : (which : LogText) (c : Settings) (heard : List Envelope) (from most : ℕ) → log_lines which from most (kept_after c heard).entries ≡ log_of which c heard from most
unfolding kept_after
lines_of Message c heard from most =
    ap (map (entry_text Message)) (numbered_map (entry_at c) from most (answers_of c heard))
    ∙ mapped_twice (entry_text Message) (entry_at c) (numbered_from from most (answers_of c heard))
    ∙ sym (mapped_twice (message_text c.receiver) (λ (x : Envelope × Answered). x.0) (numbered_from from most (answers_of c heard)))
    ∙ ap (map (message_text c.receiver)) (sym (numbered_map (λ (x : Envelope × Answered). x.0) from most (answers_of c heard)) ∙ ap (numbered_from from most) (envelopes_of c (opening c) heard))
lines_of Answer c heard from most =
    ap (map (entry_text Answer)) (numbered_map (entry_at c) from most (answers_of c heard))
    ∙ mapped_twice (entry_text Answer) (entry_at c) (numbered_from from most (answers_of c heard))

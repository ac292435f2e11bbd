-- How the reading of a request's head ends.
use Rattle.std.specs.Prelude.{◌≡◌, ◌<◌, ◌≤◌, ℕ, List, [], ◌∷◌, ◌++◌, length, Option}
use Rattle.std.specs.Io.KnownBytes.{IsAtEnd}
use Rattle.httparse.specs.Ascii.{line_feed}
use Rattle.httparse.specs.Grammar.{RequestHead, HasNoRequest, MayBecomeRequest, AllPass, print_request}
use Rattle.httparse.specs.Pieces.{is_newline}
use Rattle.httparse.specs.Spans.{RequestOverflows}

-- the greatest length of a head, in octets, with the empty lines before it and the one that ends it (this project's limit)
abbrev pub longest_head : ℕ
longest_head = 8192

-- the greatest number of headers (this project's limit)
abbrev pub most_headers : ℕ
most_headers = 32

-- the head has no more octets and no more headers than these
abbrev pub IsWithinLimits : RequestHead → Type 0
IsWithinLimits h = (length (print_request h) ≤ longest_head) × (length h.fields ≤ most_headers)

-- Wherever a line ends, what was read by then may become a head. Empty lines before a head are skipped.
abbrev pub MayGoOn : List ℕ → Type 0
MayGoOn octets = (line left : List ℕ) → octets ≡ line ++ line_feed ∷ left → ¬ (AllPass is_newline line) → MayBecomeRequest (line ++ line_feed ∷ [])

-- What was read is not a head. Either no head with at most `most_headers` headers begins with these octets, and all but the last might have
-- become one. Or they are not yet a head, and the input ended after one or more of them, or a head may have no more octets.
pub data IsNoHead (octets : List ℕ) (rest : Option (List ℕ)) : Type 0 where
  bad : (before : List ℕ) (last : ℕ) → octets ≡ before ++ last ∷ [] → MayGoOn before → RequestOverflows most_headers octets → IsNoHead octets rest
  cut_off : 0 < length octets → HasNoRequest octets → MayGoOn octets → IsAtEnd rest → IsNoHead octets rest
  too_long : HasNoRequest octets → MayGoOn octets → longest_head ≤ length octets → IsNoHead octets rest

-- Laws of heads: an input begins with at most one head, and with none if none was found.
use Rattle.std.specs.Prelude.{◌≡◌, ℕ, List, ◌++◌, Some}
use Rattle.httparse.specs.Grammar.{RequestHead, ReadsRequest}
use Rattle.desk_http.specs.Heads.{IsNoHead, IsWithinLimits}

-- two heads with which one input begins are the same, and the same octets follow them
abbrev pub HeadsAreOne : Type 0
HeadsAreOne = (input after later : List ℕ) (h k : RequestHead)
    → ReadsRequest input h after → ReadsRequest input k later
    → (h ≡ k) × (after ≡ later)

-- an input whose octets were read as no head, with the others left, begins with no head within the limits
abbrev pub NoHeadIsNone : Type 0
NoHeadIsNone = (octets left after : List ℕ) (h : RequestHead)
    → IsNoHead octets (Some left) → ReadsRequest (octets ++ left) h after
    → ¬ (IsWithinLimits h)

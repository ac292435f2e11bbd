-- The tokens of a value print as its compact text.
use Rattle.std.proofs.Common.{◌≡◌, List, ap, ◌∙◌}
use Rattle.std.specs.Prelude.{⊤}
use Rattle.json.specs.Print.{print}
use Rattle.json.specs.Token.{Token}
use Rattle.json.specs.Tree.{json_tokens}
use Rattle.serde_json.specs.Data.{Data}
use Rattle.serde_json.specs.Written.{compact_text, outline}
use Rattle.serde_json.proofs.Texts.{print-outline}
use Rattle.desk_wire.specs.steps.Texts.{then_text, then_number, then_boolean, then_number_or_null, then_opened, then_closed, heard_tokens}

-- the tokens of a value print as its compact text
pub printed : (d : Data) (ts : List Token) → ts ≡ json_tokens (outline d) → print ts ≡ compact_text d
printed d ts same = ap print same ∙ print-outline d

-- what the proof of a function that writes a whole text unfolds
unfoldable pub whole_texts : ⊤
unfolding then_text then_number then_boolean then_number_or_null then_opened then_closed heard_tokens
whole_texts = tt

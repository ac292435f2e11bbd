-- The tokens of an object that is being written: one more member.
use Rattle.std.specs.Prelude.{ℕ, List, [], ◌∷◌, ◌++◌, Bool, Option, codes, decimal}
use Rattle.json.specs.Token.{Token, begin_object, end_object, key, string, number, boolean}
use Rattle.json.specs.Tree.{json_tokens}
use Rattle.serde_json.specs.Written.{outline}
use Rattle.radio_core.specs.DataRates.{dr_number}
use Rattle.registry_core.specs.declared.messages.Report.{Report}
use Rattle.radio_core.specs.declared.bands.Band.{Band}
use Rattle.desk_wire.specs.Bands.{band_name}
use Rattle.desk_wire.specs.Hexadecimal.{octet_digits}
use Rattle.desk_wire.specs.declared.heads.Head.{Head}
use Rattle.desk_wire.specs.Members.{integer_or_null}

-- the opening brace
abbrev pub opened : List Token
opened = begin_object ∷ []

unfoldable pub then_text : List Token → List ℕ → List ℕ → List Token
then_text before member text = before ++ key member ∷ string text ∷ []

unfoldable pub then_number : List Token → List ℕ → ℕ → List Token
then_number before member n = before ++ key member ∷ number (decimal n) ∷ []

unfoldable pub then_boolean : List Token → List ℕ → Bool → List Token
then_boolean before member b = before ++ key member ∷ boolean b ∷ []

unfoldable pub then_number_or_null : List Token → List ℕ → Option ℕ → List Token
then_number_or_null before member n = before ++ key member ∷ json_tokens (outline (integer_or_null n))

-- ProtocolVersion and ReceiverID
abbrev pub then_version_and_receiver : List Token → List ℕ → List Token
then_version_and_receiver before receiver = then_text (then_text before (codes "ProtocolVersion") (codes "1.0")) (codes "ReceiverID") receiver

-- a member that is an object, up to its opening brace
unfoldable pub then_opened : List Token → List ℕ → List Token
then_opened before member = before ++ key member ∷ begin_object ∷ []

-- the closing brace
unfoldable pub then_closed : List Token → List Token
then_closed before = before ++ end_object ∷ []

-- Result, with its two members
abbrev pub then_result : List Token → List ℕ → List ℕ → List Token
then_result before code description =
    then_closed (then_text (then_text (then_opened before (codes "Result")) (codes "Description") description) (codes "ResultCode") code)

-- MessageType, ProtocolVersion, ReceiverID, Result and SenderID of an answer
abbrev pub then_head_and_result : List Token → Head → List ℕ → List ℕ → List ℕ → List Token
then_head_and_result before head receiver code description =
    then_text
    (then_result
    (then_version_and_receiver
    (then_text before (codes "MessageType") (head.type_name ++ codes "Ans"))
    head.sender)
    code description)
    (codes "SenderID") receiver

-- Airtime and Band
abbrev pub then_airtime : List Token → ℕ → Band → List Token
then_airtime before airtime band = then_text (then_number before (codes "Airtime") airtime) (codes "Band") (band_name band)

-- a message that reports a frame, up to its last member, Verdict
unfoldable pub heard_tokens : List ℕ → List ℕ → ℕ → List ℕ → Report → List Token
heard_tokens receiver sender transaction type_name report =
    begin_object
    ∷ key (codes "DataRate") ∷ number (decimal (dr_number report.rate.dr))
    ∷ key (codes "Freq") ∷ number (decimal report.rate.freq)
    ∷ key (codes "Gateway") ∷ string report.gateway
    ∷ key (codes "MessageType") ∷ string type_name
    ∷ key (codes "PHYPayload") ∷ string (octet_digits report.octets)
    ∷ key (codes "ProtocolVersion") ∷ string (codes "1.0")
    ∷ key (codes "ReceiverID") ∷ string receiver
    ∷ key (codes "SenderID") ∷ string sender
    ∷ key (codes "Time") ∷ number (decimal report.time)
    ∷ key (codes "TransactionID") ∷ number (decimal transaction)
    ∷ []

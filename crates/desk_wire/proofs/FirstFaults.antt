-- The first error of a text is never out of memory.
use Rattle.std.proofs.Common.{◌≡◌, ◌≢◌, ℕ, Bool, true, false, List, Option, Some, None, Result, Ok, Err, ap}
use Rattle.std.specs.Prelude.{codes, if◌then◌else◌}
use Rattle.std.specs.Str.{bytes_eq}
use Rattle.std.specs.Option.{ok_or}
use Rattle.serde_json.specs.Data.{Data}
use Rattle.registry_core.specs.declared.messages.Envelope.{Envelope}
use Rattle.registry_core.specs.declared.messages.Message.{Message}
use Rattle.desk_wire.specs.declared.faults.WireFault.{WireFault}
use Rattle.desk_wire.specs.declared.faults.WireFault.TheVariants.{BadBody, InvalidProtocolVersion, Memory, UnknownReceiver, UnknownType}
use Rattle.desk_wire.specs.declared.heads.Head.{Head}
use Rattle.desk_wire.specs.declared.reading.CommonMembers.{CommonMembers}
use Rattle.desk_wire.specs.Laws.{ReadsNoMemory}
use Rattle.desk_wire.specs.Reading.{common_members_of, envelope_addressed, envelope_of, message_of, reads_value, value_of, with_message}

record IsNoMemory {T : Type 0} (read : Result T WireFault) : Type 0 where
  no : read ≢ Err Memory

either : {T : Type 0} (b : Bool) (x y : Result T WireFault) → IsNoMemory x → IsNoMemory y → IsNoMemory (if b then x else y)
either true x y p q = p
either false x y p q = q

body : (found : Option Message) (head : Head) → IsNoMemory (ok_or found (BadBody head))
body None head = record { no = λ e. cc }
body (Some message) head = record { no = λ e. cc }

unknown : (head : Head) → IsNoMemory {T = Message} (Err (UnknownType head))
unknown head = record { no = λ e. cc }

message : (head : Head) (value : Data) → IsNoMemory (message_of head value)
unfolding message_of
message head value =
    let is : List ℕ → Bool = bytes_eq head.type_name in
    either (is (codes "SenderAdd")) _ _ (body _ head)
    (either (is (codes "OwnerAdd")) _ _ (body _ head)
    (either (is (codes "GatewayAdd")) _ _ (body _ head)
    (either (is (codes "DeviceAdd")) _ _ (body _ head)
    (either (is (codes "DeviceMove")) _ _ (body _ head)
    (either (is (codes "JoinHeard")) _ _ (body _ head)
    (either (is (codes "FrameHeard")) _ _ (body _ head)
    (either (is (codes "DownBook")) _ _ (body _ head)
    (either (is (codes "DownDone")) _ _ (body _ head)
    (either (is (codes "LimitSet")) _ _ (body _ head) (unknown head))))))))))

with_any : (head : Head) (read : Result Message WireFault) → IsNoMemory read → IsNoMemory (with_message head read)
with_any head (Ok message) p = record { no = λ e. cc }
with_any head (Err fault) p = record { no = λ e. let same : fault ≡ Memory = cc in p.no (ap Err same) }

addressed : (receiver : List ℕ) (common : CommonMembers) (value : Data) → IsNoMemory (envelope_addressed receiver common value)
unfolding envelope_addressed
addressed receiver common value =
    either common.is_current _ _
    (either (bytes_eq common.receiver receiver) _ _ (with_any common.head (message_of common.head value) (message common.head value)) (another common.head))
    (old common.head)
  where
    another : (head : Head) → IsNoMemory {T = Envelope} (Err (UnknownReceiver head))
    another head = record { no = λ e. cc }

    old : (head : Head) → IsNoMemory {T = Envelope} (Err (InvalidProtocolVersion head))
    old head = record { no = λ e. cc }

of_members : (receiver : List ℕ) (common : Option CommonMembers) (value : Data) → IsNoMemory (envelope_of receiver common value)
of_members receiver None value = record { no = λ e. cc }
of_members receiver (Some common) value = addressed receiver common value

of_value : (receiver : List ℕ) (value : Option Data) → IsNoMemory (reads_value receiver value)
of_value receiver None = record { no = λ e. cc }
of_value receiver (Some value) = of_members receiver (common_members_of value) value

pub reads_no_memory : ReadsNoMemory
reads_no_memory receiver text = (of_value receiver (value_of text)).no

-- The values of commands: the arguments that give them, and how they are read.
use Rattle.std.specs.Prelude.{ℕ, ◌+◌, ◌^◌, Bool, true, false, ◌&&◌, List, [], ◌∷◌, Option, Some, None, Result, Ok, Err, codes, nat_le, bytes_eq, option_and_then, if◌then◌else◌}
use Rattle.std.specs.Option.{option_map_or}
use Rattle.clap.specs.Simple.{App, new_rule, with_rule}
use Rattle.clap.specs.declared.builder.action.ArgAction.TheVariants.{SetTrue}
use Rattle.clap.specs.Walk.{Row, Rule, Text, first_of}
use Rattle.radio_core.specs.Names.{is_name}
use Rattle.registry_core.specs.Settings.{Settings}
use Rattle.desk_engine.specs.declared.lists.ListOf.{ListOf}
use Rattle.desk_engine.specs.declared.lists.ListOf.TheVariants.{Senders, Owners, Gateways, Devices}
use Rattle.desk_wire.specs.Decimals.{count_in}
use Rattle.desk_wire.specs.Hexadecimal.{addr_in}
use Rattle.desk_cli.specs.declared.usage.BadValue.{BadValue}
use Rattle.desk_cli.specs.declared.usage.BadValue.TheVariants.{Receiver, Operator, Base, Addresses, Block, Missing}

-- ---- their arguments

-- an option of one value, with its default
abbrev pub option_rule : Text → Text → Rule
option_rule name default = record (new_rule name) { long = Some name; value_names = 1; defaults = default ∷ [] }

-- an option of one value that is required
abbrev pub required_rule : Text → Rule
required_rule name = record (new_rule name) { long = Some name; value_names = 1; required = true }

-- an option of one value that may be left out
abbrev pub optional_rule : Text → Rule
optional_rule name = record (new_rule name) { long = Some name; value_names = 1 }

-- an option without a value
abbrev pub flag_rule : Text → Rule
flag_rule name = record (new_rule name) { long = Some name; action = Some SetTrue }

-- a required argument without a name, known by its place
abbrev pub place_rule : Text → Rule
place_rule name = record (new_rule name) { value_names = 1; required = true }

-- a command with the four options of a desk's configuration
abbrev pub with_settings : App → App
with_settings app =
    with_rule (with_rule (with_rule (with_rule app
    (option_rule (codes "receiver") (codes "desk")))
    (option_rule (codes "operator") (codes "office")))
    (option_rule (codes "base") (codes "01a00000")))
    (option_rule (codes "addresses") (codes "65536"))

-- ---- the values that they give

-- a value, or which value is bad
abbrev pub OrBad : Type 0 → Type 0
OrBad X = Result X BadValue

infixl 10 ◌>>=◌
abbrev pub ◌>>=◌ : {X Y : Type 0} → OrBad X → (X → OrBad Y) → OrBad Y
(Ok x) >>= next = next x
(Err bad) >>= next = Err bad

-- the value, or the bad one if there is none
abbrev pub or_bad : {X : Type 0} → Option X → BadValue → OrBad X
or_bad (Some x) bad = Ok x
or_bad None bad = Err bad

abbrev pub name_of : Text → Option Text
name_of text = if is_name text then Some text else None

-- the list that a text names
unfoldable pub list_in : Text → Option ListOf
list_in text =
    if bytes_eq text (codes "senders") then Some Senders
    else if bytes_eq text (codes "owners") then Some Owners
    else if bytes_eq text (codes "gateways") then Some Gateways
    else if bytes_eq text (codes "devices") then Some Devices
    else None

-- there is at least one address, and the last is ffffffff or before
abbrev pub is_block : ℕ → ℕ → Bool
is_block base addresses = nat_le 1 addresses && nat_le (base + addresses) (2 ^ 32)

abbrev pub settings_from : Text → Text → ℕ → ℕ → Option Settings
settings_from receiver operator base addresses =
    if is_block base addresses
    then Some (record { receiver = receiver; operator = operator; base = base; addresses = addresses })
    else None

-- the value of an option, by a form
abbrev pub value_at : {X : Type 0} → (Text → Option X) → Text → List Row → Option X
value_at form option rows = option_and_then form (first_of option rows)

-- the same of an option that may be left out, and then has this value
abbrev pub value_or : {X : Type 0} → (Text → Option X) → X → Text → List Row → Option X
value_or form default option rows = option_map_or form (first_of option rows) (Some default)

-- an option without a value is given
abbrev pub is_set : Text → List Row → Bool
is_set option rows = option_map_or (λ text. bytes_eq text (codes "true")) (first_of option rows) false

-- the argument in a place; clap accepts no arguments that leave a place empty
abbrev pub placed : Text → List Row → OrBad Text
placed name rows = or_bad (first_of name rows) Missing

-- the configuration of the four options, or the first of them that is bad
unfoldable pub config_of : List Row → OrBad Settings
config_of rows = do
  receiver ← or_bad (value_at name_of (codes "receiver") rows) Receiver
  operator ← or_bad (value_at name_of (codes "operator") rows) Operator
  base ← or_bad (value_at addr_in (codes "base") rows) Base
  addresses ← or_bad (value_at count_in (codes "addresses") rows) Addresses
  or_bad (settings_from receiver operator base addresses) Block

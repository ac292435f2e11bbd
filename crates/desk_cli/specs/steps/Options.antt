-- The argument of an option, as a text.
use Rattle.std.specs.Prelude.{Ok, Err}
use Rattle.std.specs.Borrow.{Bor}
use Rattle.clap.specs.Walk.{Text}
use Rattle.desk_cli.specs.Options.{OrBad}

-- the text behind a reference
abbrev pub behind : OrBad (Bor Text) → OrBad Text
behind (Ok text) = Ok text.now
behind (Err bad) = Err bad

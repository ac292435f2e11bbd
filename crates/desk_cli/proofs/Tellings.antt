-- clap's matches, or its error, for the command line are what the definition of named commands gives for the arguments.
use Rattle.std.proofs.Common.{◌≡◌, true, [], ◌∷◌, List, Option, Result, Err, inl, inr, refl, subst, sym}
use Rattle.clap.specs.Faults.{fault_of, is_simple_and_free}
use Rattle.clap.specs.Kinds.{Kinds, HasKind, IsAmong}
use Rattle.clap.specs.Matches.{found_of}
use Rattle.clap.specs.Simple.{App, HasMatchesOf, subcommand_rows_of}
use Rattle.clap.specs.Values.{kind_of}
use Rattle.clap.specs.Walk.{Row, Text, rows_of}
use Rattle.clap.specs.declared.error.Error.{Error}
use Rattle.clap.specs.declared.parser.matches.ArgMatches.{ArgMatches}
use Rattle.desk_cli.specs.CommandLine.{command_named, desk_app, named_by, named_unless}
use Rattle.desk_cli.specs.Named.{TellsNamed}
use Rattle.desk_cli.specs.steps.Usages.{IsUsageOf}
use Rattle.desk_cli.specs.declared.commands.Command.{Command}
use Rattle.desk_cli.specs.declared.usage.Usage.{Usage}
use Rattle.desk_cli.specs.declared.usage.Usage.TheVariants.{Words, Value, NotText, Memory}

-- arguments without an error name what the subcommand that they enter names
unfaulted : (kinds : Kinds) (top top_found : List Row) (met found : Option (Text × List Row)) (r : Result Command Usage)
    → kinds ≡ [] → top_found ≡ top → found ≡ met → TellsNamed (command_named top_found found) r → TellsNamed (named_unless kinds top met) r
unfaulted kinds top top_found met found r free same_top same tells =
    subst (λ ks. TellsNamed (named_unless ks top met) r) (sym free)
    (subst (λ m. TellsNamed (command_named top m) r) same (subst (λ rows. TellsNamed (command_named rows found) r) same_top tells))

-- an error about the arguments has one of their kinds
faulted : (kinds : Kinds) (top : List Row) (met : Option (Text × List Row)) (error : Error) (usage : Usage)
    → HasKind kinds error → IsUsageOf error usage → TellsNamed (named_unless kinds top met) (Err usage)
faulted kinds top met error Memory has is = tt
faulted kinds top met error (Value value) has is = absurd is
faulted kinds top met error NotText has is = absurd is
faulted kinds top met error (Words same) (inl memory) is = absurd (is.1 memory)
faulted [] top met error (Words same) (inr among) is = absurd among
faulted (kind ∷ kinds) top met error (Words same) (inr among) is =
    subst (λ e. IsAmong (kind_of e) (kind ∷ kinds)) (sym is.0) among

-- the same of the desk's command line, at a parse that gives matches and at one that gives an error
pub tells_command : (app : App) (words : List Text) (m : ArgMatches) (r : Result Command Usage) → app ≡ desk_app
    → (is_simple_and_free app ≡ true → fault_of app words ≡ []) → HasMatchesOf app words m
    → TellsNamed (command_named (rows_of (found_of m)) (subcommand_rows_of m)) r → TellsNamed (named_by words) r
tells_command app words m r is free has tells =
    let desk_free = subst (λ a. is_simple_and_free a ≡ true → fault_of a words ≡ []) is free in
    let desk_has = subst (λ a. HasMatchesOf a words m) is has in
    let has_both = desk_has refl in
    unfaulted _ _ _ _ _ r (desk_free refl) has_both.0 has_both.1 tells

pub tells_usage : (app : App) (words : List Text) (error : Error) (usage : Usage) → app ≡ desk_app
    → (is_simple_and_free app ≡ true → HasKind (fault_of app words) error) → IsUsageOf error usage
    → TellsNamed (named_by words) (Err usage)
tells_usage app words error usage is has same =
    let desk_has = subst (λ a. is_simple_and_free a ≡ true → HasKind (fault_of a words) error) is has in
    faulted _ _ _ error usage (desk_has refl) same

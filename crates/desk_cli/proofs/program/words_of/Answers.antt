-- `collect` takes the text of each argument, in order.
use Rattle.std.proofs.Common.{rules, string_bytes}
use Rattle.std.proofs.lemmas.Iterator.{YieldsList-from_map_by, YieldsList-from_slice}
use Rattle.std.proofs.lemmas.Iterator.Consumers.{map_from_collect}
use Rattle.desk_cli.proofs.program.words_of.Goals as goal

pub returns : goal.returns
returns c =
    map_from_collect c.collect.result c.collect.ensures.ran
    (YieldsList-from_map_by _ (λ text. text.now) string_bytes (YieldsList-from_slice c.args.arguments.now cc) c.map-words.ensures.closure
    (λ x r q k. search rules))

-- The texts in the row of a message are those of its entry in the log.
use Rattle.std.proofs.Common.{◌∙◌, sym, ap, option_map}
use Rattle.desk_store.specs.Kept.{entry_of, texts_of}
use Rattle.desk_tables.proofs.Entries.{heard_texts}
use Rattle.desk_tables.proofs.Reading.{shows}
use Rattle.desk_tables.proofs.looks.texts.texts_of.Goals as goal

pub returns : goal.returns
returns g c = shows _ _ _ _ _ _ (λ r is config kept tell.
    c.shown.ensures ∙ is ∙ sym (heard_texts c.args.envelope.now r.replies)
    ∙ ap (λ entries. option_map texts_of (entry_of c.args.envelope.now entries)) (sym tell.entries)) c.in_ok-found.ensures

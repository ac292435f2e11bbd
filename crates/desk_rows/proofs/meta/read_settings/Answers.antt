-- Only the schema of meta decides what is read; a query that succeeds changes nothing, and one that fails leaves all or rolls back.
use Rattle.std.proofs.Common.{◌∙◌, inl, sym}
use Rattle.std.proofs.lemmas.Result.{IfErr-weaker, IfOk-weaker}
use Rattle.sqlite.specs.Held.{state}
use Rattle.desk_rows.proofs.MetaLemmas.{told, untold, leaves_ok, leaves_err, survives, never_odd}
use Rattle.desk_rows.proofs.RowPlaces.{on_err, on_ok}
use Rattle.desk_rows.proofs.meta.read_settings.Goals as goal

pub returns-in-Ok-clause-told : goal.returns-in-Ok-clause-told
returns-in-Ok-clause-told g c has clean = IfOk-weaker c.settings_of.result _ _
    (λ x it. told (state g.S.Store c.args.conn.now) (state g.S.Store c.query_all.new.self) has it.0 x.0 x.1 c.in-Ok.rows.items (sym c.as_slice.ensures.value ∙ it.1) (c.in-Ok.ensures.ok clean) it.2)
    c.settings_of.ensures.tells

pub returns-in-Ok-clause-untold : goal.returns-in-Ok-clause-untold
returns-in-Ok-clause-untold g c has clean unlimited = IfErr-weaker c.settings_of.result _ _
    (λ fault never odd. untold (state g.S.Store c.args.conn.now) (state g.S.Store c.query_all.new.self) has c.in-Ok.rows.items (c.in-Ok.ensures.ok clean)
    (λ row one. never row (c.as_slice.ensures.value ∙ one)))
    c.settings_of.ensures.untold

pub returns-in-Ok-clause-same : goal.returns-in-Ok-clause-same
returns-in-Ok-clause-same g c has clean = on_ok c.settings_of.result (leaves_ok (state g.S.Store c.args.conn.now) (state g.S.Store c.query_all.new.self) has c.in-Ok.rows.items (c.in-Ok.ensures.ok clean))

pub returns-in-Ok-clause-left : goal.returns-in-Ok-clause-left
returns-in-Ok-clause-left g c has clean = on_err c.settings_of.result (inl (leaves_ok (state g.S.Store c.args.conn.now) (state g.S.Store c.query_all.new.self) has c.in-Ok.rows.items (c.in-Ok.ensures.ok clean)))

pub returns-in-Ok-clause-survives : goal.returns-in-Ok-clause-survives
returns-in-Ok-clause-survives g c has = survives (state g.S.Store c.args.conn.now) (state g.S.Store c.query_all.new.self) has c.in-Ok.ensures.survives

pub returns-in-Err-clause-untold : goal.returns-in-Err-clause-untold
returns-in-Err-clause-untold g c has clean unlimited odd = absurd
    (never_odd (state g.S.Store c.args.conn.now) (state g.S.Store c.query_all.new.self) has unlimited c.in-Err.error (rw c.fault_of.ensures at odd) (c.in-Err.ensures.err clean))

pub returns-in-Err-clause-left : goal.returns-in-Err-clause-left
returns-in-Err-clause-left g c has clean = leaves_err (state g.S.Store c.args.conn.now) (state g.S.Store c.query_all.new.self) has c.in-Err.error (c.in-Err.ensures.err clean)

pub returns-in-Err-clause-survives : goal.returns-in-Err-clause-survives
returns-in-Err-clause-survives g c has = survives (state g.S.Store c.args.conn.now) (state g.S.Store c.query_all.new.self) has c.in-Err.ensures.survives

-- Command by command: what its function promises, and that the log of its desk satisfies the registry's rules.
use Rattle.std.proofs.Common.{refl}
use Rattle.std.proofs.KnownBytes.{Keeps-refl}
use Rattle.desk_cli.proofs.ByRules.{answers_by_rules, audits_by_rules, by_rules, imports_by_rules, logs_by_rules, report_by_rules, serves_by_rules}
use Rattle.desk_cli.proofs.Ended.{ends_so}
use Rattle.desk_cli.proofs.performing.perform.Goals as goal

pub returns-in-Version : goal.returns-in-Version
returns-in-Version g c = rw c.in-Version.is (ends_so c.version_command.ensures (λ r done. (done, Keeps-refl _, refl)))

pub returns-in-Lines : goal.returns-in-Lines
returns-in-Lines g c = rw c.in-Lines.is (ends_so c.lines_command.ensures (λ r done. (done, refl)))

pub returns-in-Init : goal.returns-in-Init
returns-in-Init g c = rw c.in-Init.is (ends_so c.init_file.ensures (λ r done. (done, Keeps-refl _, Keeps-refl _)))

pub returns-in-Migrate : goal.returns-in-Migrate
returns-in-Migrate g c = rw c.in-Migrate.is (ends_so c.migrate_file.ensures (λ r done. (done, Keeps-refl _, Keeps-refl _)))

pub returns-in-Hear : goal.returns-in-Hear
returns-in-Hear g c = rw c.in-Hear.is (ends_so c.hear_file.ensures (λ r done.
    by_rules _ (g.N.FileOpener.paths c.args.files) _ _ _ _ _ (λ back config heard. answers_by_rules c.rules_are_kept.ensures _ back config heard _ _ _ _ _) done))

pub returns-in-Import : goal.returns-in-Import
returns-in-Import g c = rw c.in-Import.is (ends_so c.import_file.ensures (λ r done.
    by_rules _ (g.N.FileOpener.paths c.args.files) _ _ _ _ _ (λ back config heard. imports_by_rules c.rules_are_kept.ensures _ back config heard _ _ _ _ _ _) done))

pub returns-in-Serve : goal.returns-in-Serve
returns-in-Serve g c = rw c.in-Serve.is (ends_so c.serve_file.ensures (λ r done. (
  by_rules _ (g.N.FileOpener.paths c.args.files) _ _ _ _ _ (λ back config heard. serves_by_rules c.rules_are_kept.ensures _ back config heard _ _ _ _ _ _) done,
  Keeps-refl _,
)))

pub returns-in-Report : goal.returns-in-Report
returns-in-Report g c = rw c.in-Report.is (ends_so c.print_file.ensures (λ r done. report_by_rules c.rules_are_kept.ensures _ (g.N.FileOpener.paths c.args.files) _ _ _ _ _ _ r done))

pub returns-in-Bands : goal.returns-in-Bands
returns-in-Bands g c = rw c.in-Bands.is (ends_so c.print_file-in-Bands.ensures (λ r done. report_by_rules c.rules_are_kept.ensures _ (g.N.FileOpener.paths c.args.files) _ _ _ _ _ _ r done))

pub returns-in-Room : goal.returns-in-Room
returns-in-Room g c = rw c.in-Room.is (ends_so c.print_file-in-Room.ensures (λ r done. report_by_rules c.rules_are_kept.ensures _ (g.N.FileOpener.paths c.args.files) _ _ _ _ _ _ r done))

pub returns-in-Listing : goal.returns-in-Listing
returns-in-Listing g c = rw c.in-Listing.is (ends_so c.print_file-in-Listing.ensures (λ r done. report_by_rules c.rules_are_kept.ensures _ (g.N.FileOpener.paths c.args.files) _ _ _ _ _ _ r done))

pub returns-in-Device : goal.returns-in-Device
returns-in-Device g c = rw c.in-Device.is (ends_so c.print_file-in-Device.ensures (λ r done. report_by_rules c.rules_are_kept.ensures _ (g.N.FileOpener.paths c.args.files) _ _ _ _ _ _ r done))

pub returns-in-Receptions : goal.returns-in-Receptions
returns-in-Receptions g c = rw c.in-Receptions.is (ends_so c.print_file-in-Receptions.ensures (λ r done. report_by_rules c.rules_are_kept.ensures _ (g.N.FileOpener.paths c.args.files) _ _ _ _ _ _ r done))

pub returns-in-Downlinks : goal.returns-in-Downlinks
returns-in-Downlinks g c = rw c.in-Downlinks.is (ends_so c.print_file-in-Downlinks.ensures (λ r done. report_by_rules c.rules_are_kept.ensures _ (g.N.FileOpener.paths c.args.files) _ _ _ _ _ _ r done))

pub returns-in-Log : goal.returns-in-Log
returns-in-Log g c = rw c.in-Log.is (ends_so c.log_file.ensures (λ r done. (
  by_rules _ (g.N.FileOpener.paths c.args.files) _ _ _ _ _ (λ back config heard. logs_by_rules c.rules_are_kept.ensures _ back config heard _ _ _ _) done,
  Keeps-refl _,
)))

pub returns-in-Check : goal.returns-in-Check
returns-in-Check g c = rw c.in-Check.is (ends_so c.check_file.ensures (λ r done. report_by_rules c.rules_are_kept.ensures _ (g.N.FileOpener.paths c.args.files) _ _ _ _ _ _ r done))

pub returns-in-Audit : goal.returns-in-Audit
returns-in-Audit g c = rw c.in-Audit.is (ends_so c.audit_file.ensures (λ r done. (
  audits_by_rules c.rules_are_kept.ensures _ (g.N.FileOpener.paths c.args.files) _ _ _ r _ _ _ _ done,
  Keeps-refl _,
)))

-- What the connection shows is what the files contain, on a disk that has returned what was written to it.
use Rattle.desk_cli.proofs.files.HostFilesFileOpenerFileStoreFileFrom.make.Goals as goal

pub returns-in-Ok-clause-made : goal.returns-in-Ok-clause-made
returns-in-Ok-clause-made g c = λ clean. (c.in-Ok.ensures.opened clean, c.in-Ok.ensures.found clean)

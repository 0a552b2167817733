use Rattle.work_run.proofs.kept.ran_kept.Given as goal

-- the log of this bus, in the file of this name
abbrev pub ghosts-ran_with : goal.ghosts-ran_with
ghosts-ran_with g a = record {
  tags = a.booked.log.tags;
  units = a.booked.log.units;
  name = a.kept.file.now;
  tells = g.K.KeptFiles.tells a.files.now;
  can_fail = g.K.KeptFiles.can_fail a.files.now a.kept.file.now;
}

use Rattle.uas_work.proofs.workers.spawn_all.Given as goal

-- the bus that is handed in
abbrev pub ghosts-finished : goal.ghosts-finished
ghosts-finished g a = record { first = a.booked }

use Rattle.hyb.proofs.main.Goals as goal

-- the fault that is there names one of the files
pub complaint-requires : goal.complaint-requires
complaint-requires g c = λ names named. rw c.in-Some.is at (c.hybrid-finish.ensures.names_file names named)

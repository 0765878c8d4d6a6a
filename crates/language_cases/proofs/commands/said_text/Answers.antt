use Rattle.language_cases.proofs.commands.said_text.Goals as goal

-- the fault that is there names one of the files
pub fault_line-requires : goal.fault_line-requires
fault_line-requires c = λ names named. rw c.in-Some.is at (c.requires names named)

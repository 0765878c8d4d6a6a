use Rattle.commons_words.proofs.tests.post.Goals as goal

pub returns-in_err-append-clause-later : goal.returns-in_err-append-clause-later
returns-in_err-append-clause-later g c = let l = g.met.C.Commons.later_later in l _ _ _ c.claim.ensures.later (l _ _ _ c.put_send-entry.ensures.later c.append.ensures.later)

pub returns-clause-later : goal.returns-clause-later
returns-clause-later g c = let l = g.met.C.Commons.later_later in l _ _ _ c.claim.ensures.later (l _ _ _ c.put_send-entry.ensures.later c.append.ensures.later)

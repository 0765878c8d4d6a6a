use Rattle.std.proofs.Common.{sym, subst, refl, [], append-nil}
use Rattle.commons.specs.Views.{MayAppend}
use Rattle.commons_words.specs.Passes.{view_of}
use Rattle.commons_words.specs.declared.word_link.WordLink.{WordLink}
use Rattle.commons_words.proofs.Tries.{may_append_still}
use Rattle.commons_words.proofs.link_calls.WordLinkCommons.append.Goals as goal

pub loop-pass-init : goal.loop-pass-init
loop-pass-init c = (refl, c.requires.pass, (refl, ([], sym (append-nil (view_of c.args.pass.now).known))))

pub append_once-requires-clause-entry : goal.append_once-requires-clause-entry
append_once-requires-clause-entry c =
    let i = c.loop-pass.invariant in
    let v = view_of c.args.pass.now in
    let w = view_of c.loop-pass.pass in
    subst (λ (k : WordLink). MayAppend k.area w c.args.entry) (sym i.0) (may_append_still c.args.self.now.area v w c.args.entry i.2 c.requires.pass.sound.own_known c.requires.entry)

use Rattle.std.proofs.Common.{◌≡◌, ◌||◌, sym, ap, ◌∙◌}
use Rattle.core_lint.specs.code.Exports.{has_export, is_exported}
use Rattle.core_lint.proofs.ExportedLemmas.{exported-from, exported-to}
use Rattle.core_lint.proofs.exports.Exports.of.Goals as goal

pub returns : goal.returns
returns c = λ a b n.
    let program = c.args.program.now in
    let given = c.in_ok-add_modules.ensures a b n ∙ ap (λ h. h || is_exported c.as_slice.result.now a b n) (c.new-exports.ensures a b n) ∙ ap (λ ms. is_exported ms a b n) c.as_slice.ensures in
    let all : has_export c.add_modules-2.new.self a b n ≡ (is_exported program.given a b n || is_exported program.prelude a b n) =
    c.in_ok-add_modules-2.ensures a b n
    ∙ ap (λ h. h || is_exported c.as_slice-2.result.now a b n) given
    ∙ ap (λ ms. is_exported program.given a b n || is_exported ms a b n) c.as_slice-2.ensures in
    (λ e. exported-from program a b n (sym all ∙ e), λ h. all ∙ exported-to program a b n h)

use Rattle.std.proofs.Common.{◌≡◌, ◌∙◌, ap, sym, subst, List}
use Rattle.std.specs.List.{All}
use Rattle.std.proofs.Math.Logic.{∥∥₁_map}
use Rattle.captured_syntax.specs.CapturedBy.{captured_by}
use Rattle.event_nodes.specs.EventNodes.{own_events}
use Rattle.event_nodes.specs.LiftedEvents.{AreLiftedEvents}
use Rattle.hy_core.specs.NameFaults.{modules_of}
use Rattle.hy_core.specs.ProgramTrees.{function_trees}
use Rattle.hy_core.specs.declared.tree.Module.{Module}
use Rattle.letrec_names.specs.Origins.{function_origins}
use Rattle.lifted_functions.specs.Texts.{names_with}
use Rattle.lifted_program.specs.Captured.{AreCaptured}
use Rattle.lifted_syntax.specs.ExtractedSyntax.{lifted_program}
use Rattle.lifted_syntax.specs.LiftingLaws.{modules_resolved}
use Rattle.lifted_syntax.specs.Whole.{IsWhole}
use Rattle.lifting.specs.Assembled.{assembled}
use Rattle.lifting.specs.Lifting.{IsLifting}
use Rattle.lifting.proofs.LiftedWhole.{ArePassed, AreLifted, are_lifted, is_lifting, made}
use Rattle.lifting.proofs.LiftedWhole.{means_the_same, leaves_no_letrec, binds_apart}
use Rattle.lifting.proofs.SameCounts.{origins_same}
use Rattle.lifting.proofs.program.lift.Goals as goal

abbrev Whole : goal.After-drop-modules-inside-2 → Type 0
Whole c = ∥ IsLifting c.args.linted (made c.args.linted c.in_ok-functions.functions) ∥₁

lifted : (c : goal.After-drop-modules-inside-2) → Whole c
lifted c =
    let linted = c.args.linted in
    let limit = c.in_ok-limit.limit in
    let ms = c.in_ok-modules.modules in
    let captured = captured_by c.in_ok-members.members.keys in
    let ts = c.in_ok-texts.texts in
    let ns = c.in_ok-nodes.nodes.items in
    let os = c.in_ok-origins.origins.items in
    let passed : ArePassed linted limit ms captured os ts ns = record {
      renamed = λ names sites.
          ap (λ l. function_trees names sites l) c.in_ok-modules.ensures
          ∙ c.in_ok-renamed.ensures.trees names sites;
      captures = λ names sites.
          subst (λ (l : List Module). All (λ f. IsWhole f.body) (modules_resolved names l)
          → AreCaptured (function_trees names sites l) captured)
          c.as_slice.ensures (c.in_ok-members.ensures.captured names sites);
      texts_are = λ atoms.
          c.in_ok-texts.ensures.lifted atoms
          ∙ (λ i. lifted_program (names_with atoms (c.as_slice-2.ensures.value i)) captured
          (c.as_slice-3.ensures i));
      events = subst (λ (l : List Module). AreLiftedEvents linted.atoms l ns) c.as_slice-4.ensures
          c.in_ok-nodes.ensures.lifted;
      owned = c.in_ok-nodes.ensures.owned ∙ ap (own_events linted.atoms) c.as_slice-4.ensures;
      origins = c.in_ok-origins.ensures ∙ ap function_origins c.as_slice-5.ensures;
    } in
    let fs : c.in_ok-functions.functions ≡ assembled os ts ns =
    c.in_ok-functions.ensures ∙ ap (λ l. assembled l ts ns) c.as_slice-6.ensures.value in
    let origins : os ≡ function_origins (modules_of linted.program) =
    passed.origins ∙ ap function_origins c.in_ok-modules.ensures
    ∙ ap (λ p. function_origins (modules_of p)) c.in_ok-renamed.ensures.renamed
    ∙ origins_same limit linted.program in
    ∥∥₁_map linted.of_accepted (λ of.
    is_lifting linted limit captured os c.in_ok-functions.functions c.in_ok-limit.ensures.greatest
    origins
    (subst (AreLifted linted limit captured os) (sym fs)
    (are_lifted linted limit ms captured os ts ns of.0 of.1 passed)))

pub returns-clause-lifted : goal.returns-clause-lifted
returns-clause-lifted c = lifted c

pub returns-clause-meaning : goal.returns-clause-meaning
returns-clause-meaning c =
    ∥∥₁_map (lifted c) (means_the_same c.args.linted (made c.args.linted c.in_ok-functions.functions))

pub returns-clause-flat : goal.returns-clause-flat
returns-clause-flat c =
    ∥∥₁_map (lifted c) (leaves_no_letrec c.args.linted (made c.args.linted c.in_ok-functions.functions))

pub returns-clause-apart : goal.returns-clause-apart
returns-clause-apart c =
    ∥∥₁_map (lifted c) (binds_apart c.args.linted (made c.args.linted c.in_ok-functions.functions))

-- What the passes give is the lifting of a linted program.
use Rattle.std.proofs.Common.{◌≡◌, ℕ, ◌<◌, List, length, map, refl, sym, ap, ◌∙◌, subst}
use Rattle.std.proofs.lemmas.List.{length-map}
use Rattle.std.specs.List.{All}
use Rattle.hy_core.specs.Faults.{IsAccepted}
use Rattle.hy_core.specs.FullRun.{numbers_from, trees_of}
use Rattle.hy_core.specs.KnownTrees.{TreesAreKnown}
use Rattle.hy_core.specs.NameFaults.{modules_of}
use Rattle.hy_core.specs.Numbered.{program_sites}
use Rattle.hy_core.specs.PreludeModules.{with_prelude}
use Rattle.hy_core.specs.ProgramTrees.{function_trees}
use Rattle.hy_core.specs.Resolve.{Names}
use Rattle.hy_core.specs.Resolved.{FunctionTree}
use Rattle.hy_core.specs.SameProgram.{SameProgram}
use Rattle.hy_core.specs.declared.info.SiteInfo.{SiteInfo}
use Rattle.hy_core.specs.declared.tree.Module.{Module}
use Rattle.hy_core.specs.declared.tree.Program.{Program}
use Rattle.core_accepted.proofs.KnownPrograms.{accepted_known}
use Rattle.core_lint.specs.Linted.{IsLinted}
use Rattle.core_lint.specs.declared.linted.Linted.{Linted}
use Rattle.event_nodes.specs.EventNodes.{own_events}
use Rattle.event_nodes.specs.LiftedEvents.{AreLiftedEvents}
use Rattle.letrec_names.specs.Origins.{function_origins}
use Rattle.lifted_functions.specs.Texts.{names_with, text_syntax, texts}
use Rattle.lifted_functions.specs.declared.lifted_text.LiftedText.{LiftedText}
use Rattle.lifted_numbers.specs.TreeNumbers.{bare_function}
use Rattle.lifted_numbers.proofs.Reading.{program-read, trees_read}
use Rattle.lifted_program.specs.Captured.{AreCaptured}
use Rattle.lifted_program.specs.LiftedProgram.{lifted_program}
use Rattle.lifted_program.specs.LiftingLaws.{lifting_of}
use Rattle.lifted_program.specs.Renaming.{renamed_program}
use Rattle.lifted_program.specs.Apart.{FunctionBindsApart}
use Rattle.lifted_program.specs.Flat.{IsFlat}
use Rattle.lifted_program.proofs.LiftedApart.{lifted_apart}
use Rattle.lifted_program.proofs.LiftedFlat.{lifted_flat}
use Rattle.lifted_program.proofs.RenamedApart.{renamed_apart}
use Rattle.lifted_program.proofs.RenamedKnown.{renamed_known}
use Rattle.lifted_program.proofs.Whole.{whole}
use Rattle.lifted_syntax.specs.ExtractedSyntax as syntax
use Rattle.lifted_syntax.specs.ExtractedSyntax.{plain_function}
use Rattle.lifted_syntax.specs.LiftedFunctions.{trees_from}
use Rattle.lifted_syntax.specs.LiftingLaws.{modules_resolved}
use Rattle.lifted_syntax.specs.Whole.{IsWhole}
use Rattle.lifted_syntax.specs.declared.lifted.Lifted.{Lifted}
use Rattle.lifted_syntax.specs.declared.lifted.LiftedFunction.{LiftedFunction}
use Rattle.lifted_syntax.proofs.KnownWhole.{known_are_whole}
use Rattle.list_heads.specs.HeadLaws.{FunctionsHaveHeads}
use Rattle.list_heads.proofs.ProgramHeads.{program_has}
use Rattle.list_heads.proofs.TreeHeads.{program_lifted_has}
use Rattle.number_owners.specs.SiteLaws.{AreSitesOf}
use Rattle.number_owners.proofs.ProgramOwners.{accepted_owners}
use Rattle.number_owners.proofs.ProgramShares.{lifted_own_sites}
use Rattle.renaming.specs.VariableLimit.{variable_limit}
use Rattle.lifting.specs.Assembled.{assembled}
use Rattle.lifting.specs.Lifting.{IsLifting, MeansTheSame, LeavesNoLetrec, BindsApart}
use Rattle.lifting.specs.Lifting.{linted_names, linted_trees}
use Rattle.lifting.proofs.Assembling.{AreAlike, events_in, have_nodes, have_numbers, have_origins}
use Rattle.lifting.proofs.Assembling.{have_texts}
use Rattle.lifting.proofs.OriginLengths.{as_many_origins}

abbrev sites_in : Linted → List ℕ
sites_in linted = numbers_from 0 linted.sites.items

-- what the passes give; ms: the renamed modules
pub record ArePassed (linted : Linted) (limit : ℕ) (ms : List Module) (captured : ℕ → List ℕ)
    (os : List ℕ) (ts : List LiftedText) (ns : List (List ℕ)) : Type 0 where
  pub renamed : (names : Names) (sites : List ℕ) → function_trees names sites ms
      ≡ renamed_program limit (function_trees names sites (modules_of linted.program))
  pub captures : (names : Names) (sites : List ℕ)
      → All (λ f. IsWhole f.body) (modules_resolved names ms)
      → AreCaptured (function_trees names sites ms) captured
  pub texts_are : (atoms : List (List ℕ)) → texts ts
      ≡ syntax.lifted_program (names_with atoms linted.functions.items) captured ms
  pub events : AreLiftedEvents linted.atoms ms ns
  pub owned : ns ≡ own_events linted.atoms ms
  pub origins : os ≡ function_origins ms

-- the functions that are made of that
pub record AreLifted (linted : Linted) (limit : ℕ) (captured : ℕ → List ℕ) (os : List ℕ)
    (fs : List LiftedFunction) : Type 0 where
  pub known : TreesAreKnown (linted_trees linted)
  pub exact : AreCaptured (renamed_program limit (linted_trees linted)) captured
  pub trees : trees_from (linted_names linted) linted.sites.items 0 fs
      ≡ lifting_of limit captured (linted_trees linted)
  pub nodes : map (λ f. f.nodes) fs
      ≡ map events_in (trees_from (linted_names linted) linted.sites.items 0 fs)
  pub origins : map (λ f. f.origin) fs ≡ os

-- what acceptance gives of the trees of a linted program
record OfTrees (limit : ℕ) (sites : List SiteInfo) (trees : List FunctionTree) : Type 0 where
  known : TreesAreKnown trees
  owns : AreSitesOf sites (renamed_program limit trees)
  heads : FunctionsHaveHeads (renamed_program limit trees)

of_trees : (linted : Linted) (limit : ℕ) (before : Program)
    → IsLinted before linted.program linted.atoms linted.functions.items linted.sites.items
    → OfTrees limit linted.sites.items (linted_trees linted)
of_trees linted limit before h =
    let given = before.given in
    let own : before ≡ with_prelude given =
    λ i. record { given = before.given; prelude = h.own_prelude i } in
    let accepted = subst IsAccepted own h.accepted in
    let named : linted_trees linted ≡ trees_of before =
    λ i. function_trees (record { atoms = h.own_atoms i; functions = h.own_functions i })
    (numbers_from 0 (h.own_sites i)) (modules_of (h.trees i)) in
    let trees : trees_of (with_prelude given) ≡ linted_trees linted =
    sym (named ∙ ap trees_of own) in
    let sites : program_sites (with_prelude given) ≡ linted.sites.items =
    sym (h.own_sites ∙ ap program_sites own) in
    let fine : OfTrees limit (program_sites (with_prelude given)) (trees_of (with_prelude given)) =
    record {
      known = accepted_known given accepted;
      owns = accepted_owners given accepted limit;
      heads = program_has limit given h.read;
    } in
    subst (λ s. OfTrees limit s (linted_trees linted)) sites
    (subst (λ t. OfTrees limit (program_sites (with_prelude given)) t) trees fine)

pub are_lifted : (linted : Linted) (limit : ℕ) (ms : List Module) (captured : ℕ → List ℕ)
    (os : List ℕ) (ts : List LiftedText) (ns : List (List ℕ)) (before : Program)
    → IsLinted before linted.program linted.atoms linted.functions.items linted.sites.items
    → ArePassed linted limit ms captured os ts ns
    → AreLifted linted limit captured os (assembled os ts ns)
are_lifted linted limit ms captured os ts ns before h p =
    let names = linted_names linted in
    let sites = sites_in linted in
    let of = of_trees linted limit before h in
    let source = linted_trees linted in
    let renamed = renamed_program limit source in
    let target = lifted_program captured renamed in
    let fs = assembled os ts ns in
    let same : function_trees names sites ms ≡ renamed = p.renamed names sites in
    let known : TreesAreKnown renamed = renamed_known limit source of.known in
    let known_here : TreesAreKnown (function_trees names sites ms) =
    subst TreesAreKnown (sym same) known in
    let whole = known_are_whole names sites ms known_here in
    let events : ns ≡ map events_in target =
    p.events names sites captured refl known_here
    ∙ ap (λ t. map events_in (lifted_program captured t)) same in
    let read : map (plain_function names) (texts ts) ≡ map bare_function target =
    ap (map (plain_function names)) (p.texts_are linted.atoms)
    ∙ program-read names sites captured ms whole
    ∙ ap (λ t. map bare_function (lifted_program captured t)) same in
    let many_texts : length ts ≡ length ns =
    sym (length-map ts text_syntax) ∙ sym (length-map (texts ts) (plain_function names))
    ∙ ap length read ∙ length-map target bare_function
    ∙ sym (length-map target events_in) ∙ sym (ap length events) in
    let alike : AreAlike os ts ns = record {
      origins = ap length p.origins ∙ as_many_origins linted.atoms ms ∙ sym (ap length p.owned);
      texts = many_texts;
    } in
    let nodes : map (λ f. f.nodes) fs ≡ map events_in target = have_nodes os ts ns alike ∙ events in
    let own = have_numbers linted.sites.items 0 fs target nodes
    (program_lifted_has captured renamed of.heads)
    (lifted_own_sites captured renamed linted.sites.items known of.owns) in
    let trees : trees_from names linted.sites.items 0 fs ≡ target =
    trees_read names linted.sites.items 0 fs target
    (ap (map (plain_function names)) (have_texts os ts ns alike) ∙ read) own in
    record {
      known = of.known;
      exact = subst (λ t. AreCaptured t captured) same (p.captures names sites whole);
      trees = trees;
      nodes = nodes ∙ sym (ap (map events_in) trees);
      origins = have_origins os ts ns alike;
    }

-- the functions with the tables of the linted program
abbrev pub made : Linted → List LiftedFunction → Lifted
made linted fs = record {
  functions = fs;
  atoms = linted.atoms;
  names = linted.functions;
  sites = linted.sites;
}

pub is_lifting : (linted : Linted) (limit : ℕ) (captured : ℕ → List ℕ) (os : List ℕ)
    (fs : List LiftedFunction) → limit ≡ variable_limit linted.program
    → os ≡ function_origins (modules_of linted.program) → AreLifted linted limit captured os fs
    → IsLifting linted (made linted fs)
is_lifting linted limit captured os fs greatest origins are =
    let at : AreLifted linted (variable_limit linted.program) captured os fs =
    subst (λ n. AreLifted linted n captured os fs) greatest are in
    record {
      captured = captured;
      known = at.known;
      exact = at.exact;
      trees = at.trees;
      nodes = at.nodes;
      origins = at.origins ∙ origins;
    }

-- what follows of it

pub means_the_same : (linted : Linted) (lifted : Lifted) → IsLifting linted lifted
    → MeansTheSame linted lifted
means_the_same linted lifted h atoms calls =
    let source = linted_trees linted in
    subst (λ t. SameProgram (λ f. f < length source) atoms calls source t) (sym h.trees)
    (whole (variable_limit linted.program) source h.captured h.known h.exact atoms calls)

pub leaves_no_letrec : (linted : Linted) (lifted : Lifted) → IsLifting linted lifted
    → LeavesNoLetrec lifted
leaves_no_letrec linted lifted h =
    let renamed = renamed_program (variable_limit linted.program) (linted_trees linted) in
    subst (All (λ f. IsFlat f.body)) (sym h.trees) (lifted_flat h.captured renamed)

pub binds_apart : (linted : Linted) (lifted : Lifted) → IsLifting linted lifted
    → BindsApart lifted
binds_apart linted lifted h =
    let limit = variable_limit linted.program in
    let renamed = renamed_program limit (linted_trees linted) in
    subst (All FunctionBindsApart) (sym h.trees)
    (lifted_apart h.captured renamed h.exact (renamed_apart limit (linted_trees linted)))

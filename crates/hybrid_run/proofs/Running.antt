-- A program's run, from what the body of its one function comes to.
use Rattle.std.proofs.Common.{◌≡◌, ℕ, ◌==◌, ◌&&◌, if◌then◌else◌, true, List, [], ◌∷◌, ◌++◌, map, length, slice_get, get_or, Option, Some, refl, sym, ap, subst, ◌∙◌, eq-eqb, codes}
use Rattle.std.specs.Prelude.{unwrap_or}
use Rattle.std.specs.Str.{bytes_eq}
use Rattle.std.proofs.lemmas.List.{append-nil}
use Rattle.std.proofs.lemmas.Slice.Eq.{bytes_eq-Decides}
use Rattle.hy_terms.specs.Naming.{one_on, text_of}
use Rattle.hy_terms.specs.Term as term
use Rattle.hy_terms.specs.Term.{Term}
use Rattle.hy_terms.specs.TermText.{term_text}
use Rattle.hy_terms.specs.Texts.{atom_text}
use Rattle.hy_core.specs.BuiltIn.{own_atoms}
use Rattle.hy_core.specs.Evaluation.{denote, enter, eval, evaluated, in_env}
use Rattle.hy_core.specs.Expressions.{function}
use Rattle.hy_core.specs.Event.{Event, Printed}
use Rattle.hy_core.specs.Faults.{IsAccepted}
use Rattle.hy_core.specs.FullRun.{NeverStopped, IsFullRun, main_of, main_number, names_of, runs_of, sites_of, trees_of}
use Rattle.hy_core.specs.Match.{Empty, bind_variables}
use Rattle.hy_core.specs.NameFaults.{modules_of}
use Rattle.hy_core.specs.Numbered.{numbered_program}
use Rattle.hy_core.specs.Output.{outcome_line}
use Rattle.hy_core.specs.PreludeModules.{prelude_modules}
use Rattle.hy_core.specs.ProgramTrees.{function_trees, resolved, supply_of}
use Rattle.hy_core.specs.Resolved.{FunctionTree}
use Rattle.hy_core.specs.Supplied.{Supply, supplied}
use Rattle.hy_core.specs.Tables.{info_of, local_infos, program_atoms, renamed, renamed_name, top_infos}
use Rattle.hy_core.specs.declared.class.Class.TheVariants.{Error}
use Rattle.hy_core.specs.declared.end.End.{End}
use Rattle.hy_core.specs.declared.end.End.TheVariants as ends
use Rattle.hy_core.specs.declared.end.End.TheVariants.{Ended}
use Rattle.hy_core.specs.declared.info.FunInfo.{FunInfo}
use Rattle.hy_core.specs.declared.tree.Function.{Function}
use Rattle.hy_core.specs.declared.tree.Module.{Module}
use Rattle.hy_core.specs.declared.tree.Program.{Program}
use Rattle.hybrid_run.specs.Alone.{lines_of}
use Rattle.hybrid_run.specs.Arithmetic.{term_of, reason_of, outcome_of, displays, value_text, reason_text, end_of, printed_lines, variables_of, EvaluatesTo, Evaluates}
use Rattle.hybrid_run.specs.Built.{HasText, IsClosed, the_main}
use Rattle.hy_core.specs.PreludeModules.{with_prelude}
use Rattle.hybrid_run.specs.Headline.{calls_limit, HasRun}
use Rattle.hybrid_run.specs.code.Ready.{IsReady}
use Rattle.hybrid_run.specs.declared.evaluate.Binding.{Binding}
use Rattle.hybrid_run.specs.declared.value.Ending.{Ending}
use Rattle.hybrid_run.specs.declared.value.Ending.TheVariants.{Gives, Raises}
use Rattle.hybrid_run.specs.declared.value.Reason.{Reason}
use Rattle.hybrid_run.specs.declared.value.Reason.TheVariants.{Badarith, SystemLimit}
use Rattle.hybrid_run.specs.declared.value.Value.{Value}
use Rattle.hybrid_run.specs.declared.value.Value.TheVariants.{Int, True}
use Rattle.hybrid_run.proofs.AcceptedForms.{has_no_arity, has_no_params, is_called_main, is_closed}
use Rattle.hybrid_run.proofs.AloneLemmas.{events_from, prints_and_ends, prints_and_raises}
use Rattle.hybrid_run.proofs.KnownTexts.{own_text, renamed_text}
use Rattle.hybrid_run.proofs.NumberedForms.{NumberedAlone, is_numbered_alone, numbered_alone}

-- ---- the texts of values, in each program

module _ (program : Program) where
  abbrev atoms : List (List ℕ)
  atoms = program_atoms program

  own_atom : (a : ℕ) (text : List ℕ) → HasText own_atoms a text → term_text atoms (term.Atom a) ≡ atom_text text
  own_atom a text h = ap (λ o. atom_text (unwrap_or o [])) (own_text program a text h)

  text_same : (v : Value) → term_text atoms (term_of v) ≡ value_text v
  text_same (Int n) = refl
  text_same True = own_atom 0 (codes "true") refl

  reason_same : (r : Reason) → term_text atoms (reason_of r) ≡ reason_text r
  reason_same Badarith = own_atom 2 (codes "badarith") refl
  reason_same SystemLimit = own_atom 4 (codes "system_limit") refl

  texts_of : (values : List Value) → map (term_text atoms) (map term_of values) ≡ map value_text values
  texts_of [] = refl
  texts_of (v ∷ vs) = (λ i. text_same v i ∷ texts_of vs i)

displays_printed : (values : List Value) → displays values ≡ map Printed (map term_of values)
displays_printed [] = refl
displays_printed (v ∷ vs) = ap (λ (k : List (Event Term)). Printed (term_of v) ∷ k) (displays_printed vs)

-- ---- the first process

-- a first function without parameters does what its body means
first_does : (trees : List FunctionTree) (tree : FunctionTree) (atoms : List (List ℕ)) (limit : ℕ) → slice_get trees 0 ≡ Some tree → tree.parameters ≡ []
    → runs_of trees atoms limit 0 0 [] [] ≡ eval trees atoms 0 limit Empty tree.body []
first_does trees tree atoms limit first none =
    ap (λ (o : Option FunctionTree). evaluated trees atoms 0 limit (enter trees atoms 0 o [] Empty) []) first
    ∙ ap (λ (ps : List ℕ). evaluated trees atoms 0 limit (in_env (denote atoms 0 tree.body) (bind_variables ps [] Empty)) []) none

-- the first function is found by its module, its name and its arity
first_found : (table : List (List ℕ)) (info : FunInfo) (infos : List FunInfo) → text_of table info.name.name ≡ the_main → info.name.arity ≡ 0 → main_number table (info ∷ infos) info.«module» ≡ Some 0
first_found table info infos text arity =
    let same : (info.«module» == info.«module») ≡ true = eq-eqb info.«module» info.«module» refl in
    let called : bytes_eq (text_of table info.name.name) the_main ≡ true = (bytes_eq-Decides (text_of table info.name.name) the_main).1 text in
    let none : (info.name.arity == 0) ≡ true = eq-eqb info.name.arity 0 arity in
    λ i. if same i && (called i && none i) then Some 0 else one_on (main_number table infos info.«module»)

module _ (z : Module) (f : Function) (alone : z.functions ≡ f ∷ []) (accepted : IsAccepted (with_prelude (z ∷ []))) (n : NumberedAlone z f) where
  abbrev program : Program
  program = with_prelude (z ∷ [])

  abbrev table : List (List ℕ)
  table = program_atoms program

  abbrev numbered_f : Function
  numbered_f = function (renamed_name table z f.name) f.params n.body

  abbrev supply : Supply
  supply = supply_of table numbered_f (sites_of program)

  -- the tree of the one function
  abbrev first : FunctionTree
  first = record { parameters = f.params; body = supplied (resolved (names_of program) (renamed table z z.name) numbered_f) supply }

  abbrev trees : List FunctionTree
  trees = trees_of program

  first_tree : slice_get trees 0 ≡ Some first
  first_tree = ap (λ (given : List Module). slice_get (function_trees (names_of program) (sites_of program) (given ++ (numbered_program program).prelude)) 0) n.given

  keeps : (a : ℕ) (text : List ℕ) → HasText z.atoms a text → HasText table (renamed table z a) text
  keeps = renamed_text program z prelude_modules refl

  main_is : main_of (names_of program) (modules_of (numbered_program program)) ≡ Some 0
  main_is =
      let called : text_of table (renamed table z f.name.name) ≡ the_main = ap (λ o. unwrap_or o []) (keeps f.name.name the_main (is_called_main z f alone accepted)) in
      let more = top_infos table prelude_modules in
      let locals = local_infos table (z ∷ prelude_modules) in
      ap (λ (given : List Module). main_of (names_of program) (given ++ (numbered_program program).prelude)) n.given
      ∙ ap (λ (fs : List Function). main_number table ((map (info_of table z) fs ++ more) ++ locals) (renamed table z z.name)) alone
      ∙ first_found table (info_of table z f) (more ++ locals) called (has_no_arity z f alone accepted)

  comes : (values : List Value) (ending : Ending) → EvaluatesTo n.body [] values ending → IsClosed table [] n.body
      → runs_of trees table calls_limit 0 0 [] [] ≡ record { events = displays values; calls = calls_limit; inputs = []; end = outcome_of ending }
  comes values ending to closed =
      first_does trees first table calls_limit first_tree (has_no_params z f alone accepted)
      ∙ to.means trees table (names_of program) (renamed table z z.name) 0 [] supply calls_limit [] closed

  -- what is printed and how it ends, by the texts of the terms in the program
  abbrev Runs : (count : ℕ) → (List ℕ → End) → List (List ℕ) → List ℕ → Type 0
  Runs count end shown last = IsFullRun trees table calls_limit NeverStopped 0 (events_from 0 count) (end last ∷ []) (lines_of shown ++ (outcome_line 0 (end last) ++ []))

  as_written : (values : List Value) (ending : Ending) (count : ℕ) (end : List ℕ → End) (there here : List ℕ) → there ≡ here → end here ≡ end_of ending
      → Runs count end (map (term_text table) (map term_of values)) there → HasRun (z ∷ []) values ending
  as_written values ending count end there here same is run =
      let shown = subst (λ (k : List (List ℕ)). Runs count end k there) (texts_of program values) run in
      let told = subst (λ (k : List ℕ). Runs count end (map value_text values) k) same shown in
      let ended = subst (λ (k : End). IsFullRun trees table calls_limit NeverStopped 0 (events_from 0 count) (k ∷ []) (printed_lines values ++ (outcome_line 0 k ++ []))) is told in (
        events_from 0 count,
        record {
          main = 0;
          is_main = main_is;
          run = subst (λ (k : List ℕ). IsFullRun trees table calls_limit NeverStopped 0 (events_from 0 count) (end_of ending ∷ []) (printed_lines values ++ k)) (append-nil (outcome_line 0 (end_of ending))) ended;
        },
      )

  run_with : (values : List Value) (ending : Ending) → EvaluatesTo n.body [] values ending → IsClosed table [] n.body → HasRun (z ∷ []) values ending
  run_with values (Gives v) to closed =
      let is = comes values (Gives v) to closed in
      let ts = map term_of values in
      as_written values (Gives v) (length ts) Ended (term_text table (term_of v)) (value_text v) (text_same program v) refl
      (prints_and_ends trees table calls_limit NeverStopped 0 ts (term_of v) (ap (λ r. r.events) is ∙ displays_printed values) (ap (λ r. r.inputs) is) (ap (λ r. r.end) is))
  run_with values (Raises r) to closed =
      let is = comes values (Raises r) to closed in
      let ts = map term_of values in
      as_written values (Raises r) (length ts) (ends.Raised Error) (term_text table (reason_of r)) (reason_text r) (reason_same program r) refl
      (prints_and_raises trees table calls_limit NeverStopped 0 ts Error (reason_of r) (ap (λ r. r.events) is ∙ displays_printed values) (ap (λ r. r.inputs) is) (ap (λ r. r.end) is))

  body_runs : (values : List Value) (ending : Ending) → IsClosed table [] n.body → Evaluates n.body [] [] values ending → HasRun (z ∷ []) values ending
  body_runs values ending closed (vs, p, to) = subst (λ (k : List Value). HasRun (z ∷ []) k ending) (sym p) (run_with vs ending to closed)

-- ---- a program that is about to run

-- its one module has one function, whose body is closed and whose run is the program's
record FirstFunction (zs : List Module) (program : Program) : Type 0 where
  pub m : Module
  pub g : Function
  pub given : program.given ≡ m ∷ []
  pub functions : m.functions ≡ g ∷ []
  pub closed : IsClosed (program_atoms (with_prelude zs)) [] g.body
  pub runs : (values : List Value) (ending : Ending) → Evaluates g.body [] [] values ending → HasRun zs values ending

first_function : (zs : List Module) (program : Program) → IsReady zs program → FirstFunction zs program
first_function [] program ready = absurd ready.built
first_function (z ∷ y ∷ zs) program ready = absurd ready.built
first_function (z ∷ []) program ready =
    let b = ready.built in
    let n = is_numbered_alone z b.f b.alone in
    let table = program_atoms (with_prelude (z ∷ [])) in
    let closed : IsClosed table [] n.body = n.closed (renamed_text (with_prelude (z ∷ [])) z prelude_modules refl) (is_closed z b.f b.alone ready.accepted b.forms) in
    record {
      m = numbered_alone table z b.f n.body;
      g = function (renamed_name table z b.f.name) b.f.params n.body;
      given = ap (λ (p : Program). p.given) ready.numbered ∙ n.given;
      functions = refl;
      closed = closed;
      runs = λ values ending. body_runs z b.f b.alone ready.accepted n values ending closed;
    }

-- its module and its function are those that stand there
module _ (zs : List Module) (program : Program) (ready : IsReady zs program) (ms : List Module) (m : Module) (gs : List Function) (g : Function)
    (given : ms ≡ program.given) (is_m : m ≡ get_or ms 0 m) (functions : gs ≡ m.functions) (is_g : g ≡ get_or gs 0 g) where
  abbrev own : FirstFunction zs program
  own = first_function zs program ready

  same_function : own.g ≡ g
  same_function =
      let here : own.m ≡ m = sym (is_m ∙ ap (λ (k : List Module). get_or k 0 m) (given ∙ own.given)) in
      sym (is_g ∙ ap (λ (k : List Function). get_or k 0 g) (functions ∙ ap (λ (k : Module). k.functions) (sym here) ∙ own.functions))

  pub stands_closed : (bindings : List Binding) → bindings ≡ [] → (atoms : List (List ℕ)) × IsClosed atoms (variables_of bindings) g.body
  stands_closed bindings none =
      (program_atoms (with_prelude zs), subst (λ (k : List ℕ). IsClosed (program_atoms (with_prelude zs)) k g.body) (sym (ap variables_of none)) (subst (λ (k : Function). IsClosed (program_atoms (with_prelude zs)) [] k.body) same_function own.closed))

  pub stands_run : (bindings : List Binding) (before now : List Value) (ending : Ending) → bindings ≡ [] → before ≡ [] → Evaluates g.body bindings before now ending → HasRun zs now ending
  stands_run bindings before now ending none nothing e =
      let from = subst (λ (k : List Value). Evaluates g.body [] k now ending) nothing (subst (λ (k : List Binding). Evaluates g.body k before now ending) none e) in
      own.runs now ending (subst (λ (k : Function). Evaluates k.body [] [] now ending) (sym same_function) from)

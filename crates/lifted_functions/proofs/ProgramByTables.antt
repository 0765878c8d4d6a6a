-- The functions that the code puts behind each other are those of the lifted program.
use Rattle.std.proofs.Common.{◌≡◌, ℕ, ◌+◌, List, [], ◌∷◌, ◌++◌, fold, sym, ap, subst, ◌∙◌}
use Rattle.hy_core.specs.Numbered.{function_count}
use Rattle.hy_core.specs.Resolve.{Names, function_number}
use Rattle.hy_core.specs.Syntax.{syntax_of}
use Rattle.hy_core.specs.declared.tree.FunName.{FunName}
use Rattle.hy_core.specs.declared.tree.Function.{Function}
use Rattle.hy_core.specs.declared.tree.Module.{Module}
use Rattle.letrec_names.specs.CountsGiven.{GivesFunctions, GivesModules}
use Rattle.letrec_names.specs.NestedCounts.{program_counts}
use Rattle.letrec_names.proofs.Giving.{program_given}
use Rattle.lifted_functions.specs.Texts.{texts}
use Rattle.lifted_functions.specs.code.CapturedLists.{captured_at}
use Rattle.lifted_functions.specs.code.Extraction.{State}
use Rattle.lifted_functions.specs.code.FunctionNumbers.{number_at}
use Rattle.lifted_functions.specs.code.Programs.{extracted_from, with_top, with_tops}
use Rattle.lifted_functions.specs.code.Programs.{with_extracted}
use Rattle.lifted_functions.specs.declared.lifted_text.LiftedText.{LiftedText}
use Rattle.lifted_functions.specs.declared.tables.Tables.{Tables}
use Rattle.lifted_functions.proofs.ExtractedByTables.{With, at, both, extracted-is, nothing}
use Rattle.lifted_functions.proofs.LiftedByTables.{lifted-is, next-is}
use Rattle.lifted_syntax.specs.ExtractedSyntax.{FunctionSyntax, count_module, extracted}
use Rattle.lifted_syntax.specs.ExtractedSyntax.{extracted_module, extracted_program}
use Rattle.lifted_syntax.specs.ExtractedSyntax.{lifted_functions, lifted_program, lifted_tops}
use Rattle.lifted_syntax.specs.LiftedSyntax.{count, lifted}

count_modules : List Module → ℕ
count_modules [] = 0
count_modules (m ∷ ms) = count_module m.functions + count_modules ms

module _ (names : Names) (captured : ℕ → List ℕ) (t : Tables)
    (tops : (m : ℕ) (f : FunName)
    → number_at t.functions m f ≡ function_number names.functions m f)
    (lists : (k : ℕ) → captured_at t.captured k ≡ captured k) where
  functions-are : (m n : ℕ) (fs : List Function) (done : List FunctionSyntax)
      → GivesFunctions t.counts n fs
      → With (fold (with_top t m) (at done n) fs) done n
      (lifted_functions names m captured n fs) (count_module fs)
  functions-are m n [] done h = nothing done n
  functions-are m n (f ∷ fs) done h =
      let b = syntax_of f.body in
      let this : FunctionSyntax = record {
        parameters = f.params;
        body = lifted names m captured [] n b;
      } in
      let one = this ∷ [] in
      let body = lifted-is names m captured t (tops m) lists [] n b h.0 in
      let next = next-is t.counts n b h.0 in
      both done one (lifted_functions names m captured (n + count b) fs) n (count b)
      (count_module fs)
      (ap (λ st. fold (with_top t m) st fs)
      (λ i. at (done ++ record { parameters = f.params; body = body i } ∷ []) (next i))
      ∙ functions-are m (n + count b) fs (done ++ one) h.1)

  tops-are : (n : ℕ) (ms : List Module) (done : List FunctionSyntax) → GivesModules t.counts n ms
      → With (fold (with_tops t) (at done n) ms) done n (lifted_tops names captured n ms)
      (count_modules ms)
  unfolding count_modules
  tops-are n [] done h = nothing done n
  tops-are n (m ∷ ms) done h =
      let k = count_module m.functions in
      let first = lifted_functions names m.name captured n m.functions in
      both done first (lifted_tops names captured (n + k) ms) n k (count_modules ms)
      (ap (λ st. fold (with_tops t) st ms) (functions-are m.name n m.functions done h.0)
      ∙ tops-are (n + k) ms (done ++ first) h.1)

  module-is : (m n : ℕ) (fs : List Function) (done : List FunctionSyntax)
      → GivesFunctions t.counts n fs
      → With (fold (extracted_from t m) (at done n) fs) done n
      (extracted_module names m captured n fs) (count_module fs)
  module-is m n [] done h = nothing done n
  module-is m n (f ∷ fs) done h =
      let b = syntax_of f.body in
      let first = extracted names m captured [] n b in
      both done first (extracted_module names m captured (n + count b) fs) n (count b)
      (count_module fs)
      (ap (λ st. fold (extracted_from t m) st fs)
      (extracted-is names m captured t (tops m) lists [] n b done h.0)
      ∙ module-is m (n + count b) fs (done ++ first) h.1)

  modules-are : (n : ℕ) (ms : List Module) (done : List FunctionSyntax)
      → GivesModules t.counts n ms
      → With (fold (with_extracted t) (at done n) ms) done n (extracted_program names captured n ms)
      (count_modules ms)
  unfolding count_modules
  modules-are n [] done h = nothing done n
  modules-are n (m ∷ ms) done h =
      let k = count_module m.functions in
      let first = extracted_module names m.name captured n m.functions in
      both done first (extracted_program names captured (n + k) ms) n k (count_modules ms)
      (ap (λ st. fold (with_extracted t) st ms) (module-is m.name n m.functions done h.0)
      ∙ modules-are (n + k) ms (done ++ first) h.1)

  -- first the functions of modules, and then those of letrecs
  pub program-is : (ms : List Module) (first : ℕ) (start : List LiftedText) {st u : State}
      → t.counts ≡ program_counts ms → first ≡ t.counts.first → start ≡ []
      → st ≡ fold (with_tops t) (at (texts start) first) ms
      → u ≡ fold (with_extracted t) (at st.done first) ms
      → u.done ≡ lifted_program names captured ms
  program-is ms first start counts begins empty is next =
      let n = function_count ms in
      let h = subst (λ c. GivesModules c n ms) (sym counts) (program_given ms) in
      let at_first : first ≡ n = begins ∙ ap (λ c. c.first) counts in
      let tops = is ∙ (λ i. fold (with_tops t) (at (texts (empty i)) (at_first i)) ms)
      ∙ tops-are n ms [] h in
      ap (λ u. u.done)
      (next
      ∙ (λ i. fold (with_extracted t) (at ((tops i).done) (at_first i)) ms)
      ∙ modules-are n ms (lifted_tops names captured n ms) h)

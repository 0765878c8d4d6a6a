-- Each program is accepted or has a least fault: of each kind there is a first fault, or none.
use Rattle.std.proofs.Common.{◌≡◌, ℕ, ◌+◌, ◌<◌, ◌≤◌, ◌^◌, ◌⊎◌, inl, inr, nat_lt, Bool, true, false, length, Option, Some, None, is_some, refl, arith, ltb-true, ltb-false}
use Rattle.hy_core.specs.Faults.{IsAccepted, IsLeastFault, IsTooGreat, fault_of}
use Rattle.hy_core.specs.Numbered.{program_sites}
use Rattle.hy_core.specs.Tables.{program_atoms, program_functions}
use Rattle.hy_core.specs.declared.fault.Form.TheVariants as form
use Rattle.hy_core.specs.declared.fault.LintFault.{LintFault}
use Rattle.hy_core.specs.declared.tree.Program.{Program}
use Rattle.core_walk.specs.First.{IsFaultOf, IsFirst, first_in_modules}
use Rattle.core_lint.specs.code.GreatArity.{great}
use Rattle.core_lint.specs.code.Guards.{guarded}
use Rattle.core_lint.specs.code.InOrder.{HasNoneBelow}
use Rattle.core_lint.specs.code.ForbiddenForms.{subset}
use Rattle.core_lint.specs.code.RepeatedVariables.{repeated}
use Rattle.core_lint.specs.code.UnboundVariables.{unbound}
use Rattle.core_lint.specs.code.WrongValues.{valued}
use Rattle.core_lint.proofs.Exact.{exact_first}
use Rattle.core_lint.proofs.ExportTables.{export_table}
use Rattle.core_lint.proofs.FunctionsExact.{lesser_exact}
use Rattle.core_lint.proofs.GreatExact.{great_found, great_in, in_great}
use Rattle.core_lint.proofs.GuardedExact.{guarded_exact}
use Rattle.core_lint.proofs.InOrderLemmas.{kind-within, least_of_kind, none-first, none-next}
use Rattle.core_lint.proofs.MainExact.{main_exact}
use Rattle.core_lint.proofs.NamedExact.{named_exact}
use Rattle.core_lint.proofs.OfKind.{AtNoFunction, FormAt, GuardAt, RepeatedAt, RepeatedParameter, UnboundAt, ValuesAt, form_from, form_to, guard_from, guard_to, repeated_from, repeated_to, unbound_from, unbound_to, values_from, values_to}
use Rattle.core_lint.proofs.SubsetExact.{subset_exact}
use Rattle.core_lint.proofs.RepeatedExact.{repeated_exact}
use Rattle.core_lint.proofs.RepeatedNamesExact.{repeated_names_exact}
use Rattle.core_lint.proofs.SizesLemmas.{first_size, great_arity, many_atoms, many_functions, many_sites, no_size, within_atoms, within_sites}
use Rattle.core_lint.proofs.UnboundExact.{unbound_exact}
use Rattle.core_lint.proofs.UndefinedExact.{undefined_exact}
use Rattle.core_lint.proofs.UnknownExact.{unknown_first}
use Rattle.core_lint.proofs.ValuedExact.{valued_exact}

module _ (program : Program) where
  abbrev HasFirst : (kind : ℕ) → Type 0
  HasFirst kind = (found : Option LintFault) × IsFirst (IsFaultOf program kind) found

  -- a function that isn't there, or a first module without 'main'/0
  missing : HasFirst 6
  missing = let table = export_table program in (_, lesser_exact program _ _ (unknown_first program table.0 table.1) (main_exact program))

  above : (n most : ℕ) → (most < n) ⊎ (n ≤ most)
  above n most = by (nat_lt most n) refl
    where
      by : (b : Bool) → nat_lt most n ≡ b → (most < n) ⊎ (n ≤ most)
      by true e = inl (ltb-true most n e)
      by false e = inr (ltb-false most n e)

  arity : IsTooGreat program form.Arity ⊎ (IsTooGreat program form.Arity → ⊥)
  arity = by (is_some (first_in_modules great 10 0 program.given)) refl (is_some (first_in_modules great 10 0 program.prelude)) refl
    where
      by : (b : Bool) → b ≡ is_some (first_in_modules great 10 0 program.given) → (c : Bool) → c ≡ is_some (first_in_modules great 10 0 program.prelude) → IsTooGreat program form.Arity ⊎ (IsTooGreat program form.Arity → ⊥)
      by true e c f = inl (great_in program (inl ((great_found 10 program.given _ true refl e).0 refl)))
      by false e true f = inl (great_in program (inr ((great_found 10 program.prelude _ true refl f).0 refl)))
      by false e false f = inr (λ h. elim (in_great program h) [ inl g ↦ absurd (cc ((great_found 10 program.given _ false refl e).1 g)) | inr g ↦ absurd (cc ((great_found 10 program.prelude _ false refl f).1 g)) ])

  size : HasFirst 10
  size =
      elim (above (length (program_functions program)) 65535) [
        | inl many ↦ (Some (fault_of 10 0 0 0 form.Functions), first_size program form.Functions (many_functions program many))
        | inr few ↦ elim arity [
          | inl h ↦ (Some (fault_of 10 0 0 0 form.Arity), first_size program form.Arity (great_arity program few h))
          | inr small ↦ elim (above (length (program_sites program)) (2 ^ 20)) [
            | inl many ↦ (Some (fault_of 10 0 0 0 form.Sites), first_size program form.Sites (many_sites program (within_sites program few small) many))
            | inr little ↦ elim (above (length (program_atoms program)) (2 ^ 20)) [
              | inl many ↦ (Some (fault_of 10 0 0 0 form.Atoms), first_size program form.Atoms (many_atoms program (within_atoms program (within_sites program few small) little) many))
              | inr some ↦ (None, no_size program (within_atoms program (within_sites program few small) little) some)
            ]
          ]
        ]
      ]

  abbrev Verdict : Type 0
  Verdict = IsAccepted program ⊎ ((fault : LintFault) × IsLeastFault program fault)

  -- the first fault of a kind is the least; where there is none, those of the further kinds decide
  after : (kind : ℕ) → HasNoneBelow program kind → HasFirst kind → (HasNoneBelow program (kind + 1) → Verdict) → Verdict
  after kind none (None, first) more = more (none-next program kind none first)
  after kind none (Some x, first) more = inr (x, least_of_kind program kind none x first)

  pub some_verdict : Verdict
  some_verdict =
      after 1 (none-first program) (_, named_exact program) λ none.
      after 2 none (_, repeated_names_exact program) λ none.
      after 3 none (_, undefined_exact program) λ none.
      after 4 none (_, exact_first unbound UnboundAt AtNoFunction unbound_exact program 4 (unbound_from program) (unbound_to program)) λ none.
      after 5 none (_, exact_first repeated RepeatedAt RepeatedParameter repeated_exact program 5 (repeated_from program) (repeated_to program)) λ none.
      after 6 none missing λ none.
      after 7 none (_, exact_first subset FormAt AtNoFunction subset_exact program 7 (form_from program) (form_to program)) λ none.
      after 8 none (_, exact_first valued ValuesAt AtNoFunction valued_exact program 8 (values_from program) (values_to program)) λ none.
      after 9 none (_, exact_first guarded GuardAt AtNoFunction guarded_exact program 9 (guard_from program) (guard_to program)) λ none.
      after 10 none size λ none.
      inl (λ x h. none x h (omega (arith, (kind-within h).1)))

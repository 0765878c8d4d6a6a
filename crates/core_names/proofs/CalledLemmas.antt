-- An operation by its built-in.
use Rattle.std.proofs.Common.{◌≡◌, Option, Some, None, refl, sym, ap, ◌∙◌}
use Rattle.hy_core.specs.BuiltIn as built
use Rattle.hy_core.specs.BuiltIn.{Operation}
use Rattle.core_names.specs.Called.{built_in, built_in_as}
use Rattle.core_names.specs.declared.built_in.BuiltIn.{BuiltIn}
use Rattle.core_names.specs.declared.built_in.BuiltIn.TheVariants.{Plain, Setelement, Send, Spawn, Display, Raise}

abbrev pub operation : BuiltIn → Operation
operation (Plain b) = built.Plain b
operation Setelement = built.SetsElement
operation Send = built.Sends
operation Spawn = built.Spawns
operation Display = built.Displays
operation (Raise class) = built.RaisesAs class

undone : (o : Operation) → operation (built_in o) ≡ o
undone (built.Plain b) = refl
undone built.SetsElement = refl
undone built.Sends = refl
undone built.Spawns = refl
undone built.Displays = refl
undone (built.RaisesAs class) = refl

pub operation-is : (o : Option Operation) (b : BuiltIn) → built_in_as o ≡ Some b → o ≡ Some (operation b)
operation-is None b e = absurd cc
operation-is (Some o) b e =
    let same : built_in o ≡ b = cc in
    sym (ap (λ x. Some x) (undone o)) ∙ ap (λ x. Some (operation x)) same

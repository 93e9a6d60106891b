use Rattle.std.proofs.Common.{ℕ, zero, suc, ◌<◌, List, [], ◌∷◌, subst, sym, arith}
use Rattle.std.specs.Str.{IsAscii, IsUtf8}
use Rattle.std.proofs.lemmas.Str.{IsUtf8-from_ascii}
use Rattle.fab_names.specs.Fabrics.{SpellsFabric}
use Rattle.fab_names.specs.declared.fabric.Fabric.{Fabric}
use Rattle.fab_names.specs.declared.fabric.Fabric.TheVariants.{A, B}
use Rattle.fab_names.proofs.bytes.read_fabric.Goals as goal

letter-ascii : (c : ℕ) → c < 128 → IsAscii (c ∷ [])
letter-ascii c h zero = h
letter-ascii c h (suc i) = omega arith

-- what spells a fabric is text
IsUtf8-fabric : (text : List ℕ) (fabric : Fabric) → SpellsFabric text fabric → IsUtf8 text
IsUtf8-fabric text A e = IsUtf8-from_ascii text (subst IsAscii (sym e) (letter-ascii 65 (omega arith)))
IsUtf8-fabric text B e = IsUtf8-from_ascii text (subst IsAscii (sym e) (letter-ascii 66 (omega arith)))

pub returns-in_default : goal.returns-in_default
returns-in_default c fabric s = c.in_default.ensures.cases.0 (IsUtf8-fabric _ fabric s)

pub returns-in-Err : goal.returns-in-Err
returns-in-Err c fabric s = c.in-Err.ensures.err fabric (subst (λ (t : List ℕ). SpellsFabric t fabric) (sym c.in-Ok.ensures.cases.0) s)

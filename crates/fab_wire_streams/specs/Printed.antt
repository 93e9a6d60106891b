-- Printed words, none of which has a byte with an escape.
use Rattle.std.specs.Prelude.{ℕ, ◌≡◌, ◌<◌, ◌^◌, List, decimal, true}
use Rattle.std.specs.List.{list_all}
use Rattle.fab_names.specs.Names.{IsNameText}
use Rattle.fab_names.specs.WorldWideNames.{wwn_text}
use Rattle.fab_names.specs.Members.{SpellsMember, member_text}
use Rattle.fab_names.specs.declared.member.Member.{Member}
use Rattle.fab_wire_streams.specs.Escapes.{is_line_byte}

-- the text has line ends and bytes that stand for themselves
abbrev pub IsLines : List ℕ → Type 0
IsLines text = list_all is_line_byte text ≡ true

-- names, world-wide names, numbers and members, as they are printed
pub record WordsAreLines : Type 0 where
  pub name : (text : List ℕ) → IsNameText text → IsLines text
  pub wwn : (n : ℕ) → IsLines (wwn_text n)
  pub number : (n : ℕ) → n < 2 ^ 64 → IsLines (decimal n)
  pub member : (text : List ℕ) (m : Member) → SpellsMember text m → IsLines (member_text m)

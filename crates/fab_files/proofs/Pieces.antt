-- Texts as the pieces that are put.
use Rattle.std.proofs.Common.{◌≡◌, ℕ, List, ◌++◌, codes, append_assoc}
use Rattle.fab_files.specs.ActiveSets.{words_line}

-- the three lines before the zones
pub head_pieces : (f s d : List ℕ) → words_line (codes "fabric") f ++ (words_line (codes "active") s ++ words_line (codes "default") d)
    ≡ codes "fabric " ++ (f ++ (codes "\nactive " ++ (s ++ (codes "\ndefault " ++ (d ++ codes "\n")))))
head_pieces f s d = simp append_assoc

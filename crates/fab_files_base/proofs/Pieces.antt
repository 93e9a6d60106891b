-- Lines as the pieces that are put.
use Rattle.std.proofs.Common.{◌≡◌, ℕ, ◌-◌, List, [], ◌∷◌, ◌++◌, length, replicate, append_assoc}
use Rattle.fab_files_base.specs.Columns.{row_line, columns_line}

-- a line of the report
pub row_pieces : (host volume a b state : List ℕ) → row_line host volume a b state
    ≡ host ++ (replicate (24 - length host) 32 ++ (32 ∷ (volume ++ (replicate (24 - length volume) 32 ++ (32 ∷ (replicate (6 - length a) 32 ++ (a ++ (32 ∷ (replicate (6 - length b) 32 ++ (b ++ (32 ∷ (state ++ (10 ∷ [])))))))))))))
unfolding row_line
row_pieces host volume a b state = simp append_assoc

-- lines of columns
pub three_pieces : (a b c : List ℕ) → columns_line (a ∷ b ∷ []) c
    ≡ a ++ (replicate (24 - length a) 32 ++ (32 ∷ (b ++ (replicate (24 - length b) 32 ++ (32 ∷ (c ++ (10 ∷ [])))))))
unfolding columns_line
three_pieces a b c = simp append_assoc

pub four_pieces : (a b c d : List ℕ) → columns_line (a ∷ b ∷ c ∷ []) d
    ≡ a ++ (replicate (24 - length a) 32 ++ (32 ∷ (b ++ (replicate (24 - length b) 32 ++ (32 ∷ (c ++ (replicate (24 - length c) 32 ++ (32 ∷ (d ++ (10 ∷ []))))))))))
unfolding columns_line
four_pieces a b c d = simp append_assoc

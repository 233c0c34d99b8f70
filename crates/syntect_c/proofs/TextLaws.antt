-- Bytes that are copied to a room.
use Rattle.std.proofs.Common.{◌≡◌, ◌≤◌, List, [], ◌∷◌, ◌++◌, take, drop, length, refl, ap, ◌∙◌}
use Rattle.std.proofs.lemmas.List.{append-nil, drop_all}

-- where there is room for some alone, nothing of the room stays
pub none_stays : {X : Type 0} (bytes room : List X) → length room ≤ length bytes
    → take (length room) bytes ++ drop (length bytes) room ≡ take (length room) bytes
none_stays bytes room fits =
    ap (λ rest. take (length room) bytes ++ rest) (drop_all (length bytes) room fits)
    ∙ append-nil (take (length room) bytes)

-- nothing is copied of nothing
pub nothing_copied : {X : Type 0} (room : List X) → take (length room) [] ++ drop 0 room ≡ room
nothing_copied [] = refl
nothing_copied (x ∷ xs) = refl

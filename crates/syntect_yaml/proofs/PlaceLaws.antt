-- Lines that are passed over, one at a time.
use Rattle.std.proofs.Common.{◌≡◌, ℕ, zero, suc, ◌-◌, ◌<◌, true, [], ◌∷◌, length, Some, None, refl, arith}
use Rattle.syntect_yaml.specs.Lines.{Rest, line_tail, indented, seek}

pub seek_over : (m : ℕ) (t after : Rest) → 0 < m → 0 < length t → line_tail true t ≡ Some after → seek m t ≡ seek (m - 1) after
unfolding seek
seek_over zero t after room some e = absurd (omega arith)
seek_over (suc m) [] after room some e = absurd (omega arith)
seek_over (suc m) (c ∷ t) after room some e = let less : suc m - 1 ≡ m = omega arith in rw (e, less)

pub seek_stands : (m : ℕ) (t : Rest) → 0 < m → 0 < length t → line_tail true t ≡ None → seek m t ≡ indented t
unfolding seek
seek_stands zero t room some e = absurd (omega arith)
seek_stands (suc m) [] room some e = absurd (omega arith)
seek_stands (suc m) (c ∷ t) room some e = rw e

pub seek_end : (m : ℕ) (t : Rest) → 0 < m → length t ≡ 0 → seek m t ≡ Some (record { column = 0; rest = t })
unfolding seek
seek_end zero t room none = absurd (omega arith)
seek_end (suc m) [] room none = refl
seek_end (suc m) (c ∷ t) room none = absurd (omega arith)

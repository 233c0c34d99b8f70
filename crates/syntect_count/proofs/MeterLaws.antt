-- How meters go on.
use Rattle.std.proofs.Common.{refl, ◌∙◌, arith}
use Rattle.syntect_count.specs.Meter.{Reading, Advances}

-- nothing was spent
pub advances-none : (r : Reading) → Advances r r
advances-none r = record { rises = omega arith; stays = refl }

-- one stretch after another
pub advances-on : (a b c : Reading) → Advances a b → Advances b c → Advances a c
advances-on a b c f g = record { rises = omega (arith, f.rises, g.rises); stays = g.stays ∙ f.stays }

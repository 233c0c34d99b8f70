-- What a meter shows, and how it goes on.
use Rattle.std.specs.Prelude.{◌≡◌, ℕ, ◌+◌, ◌≤◌, Option, Some}
use Rattle.std.specs.Option.{option_map}
use Rattle.syntect_count.specs.declared.stop.Stop.{Stop}
use Rattle.syntect_count.specs.declared.stop.Stop.TheVariants as stop

-- how many steps were made, and how many are left, if they are limited
pub record Reading : Type 0 where
  pub made : ℕ
  pub left : Option ℕ

-- how many steps there are in all, if they are limited
abbrev pub most_of : Reading → Option ℕ
most_of r = option_map (λ n. n + r.made) r.left

-- some steps more were made, or none, and there are as many in all as before
pub record Advances (old new : Reading) : Type 0 where
  pub rises : old.made ≤ new.made
  pub stays : most_of new ≡ most_of old

-- who stops for lack of steps has made all of them
abbrev pub StopsAt : Reading → Stop → Type 0
StopsAt r stop.Spent = r.left ≡ Some 0
StopsAt r stop.Memory = Unit {0}

-- How a call is refused.
use Rattle.std.specs.Prelude.{◌≡◌, ◌≢◌, Result, Err}
use Rattle.syntect_base.specs.declared.theme.ParseThemeError.{ParseThemeError}
use Rattle.syntect_base.specs.declared.theme.ParseThemeError.TheVariants.{Memory}

-- lack of memory, or the refusal that the answer says
abbrev pub Refuses : {X : Type 0} → Result X ParseThemeError → ParseThemeError → Type 0
Refuses answer e = e ≢ Memory → answer ≡ Err e

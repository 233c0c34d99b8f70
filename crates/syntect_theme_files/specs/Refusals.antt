-- How a call is refused that tests a value before it takes memory.
use Rattle.std.specs.Prelude.{◌≡◌, Result, Ok, Err}
use Rattle.syntect_theme_files.specs.syntect_base.declared.theme.ParseThemeError.{ParseThemeError}
use Rattle.syntect_theme_files.specs.syntect_base.declared.theme.ParseThemeError.TheVariants.{Memory}

-- the refusal that the answer says, and lack of memory only where it says none
abbrev pub RefusesExactly : {X : Type 0} → Result X ParseThemeError → ParseThemeError → Type 0
RefusesExactly (Ok x) e = e ≡ Memory
RefusesExactly (Err r) e = e ≡ r

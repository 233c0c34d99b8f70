-- Styles and changes of them.
use Rattle.std.specs.Prelude.{ℕ, Option, Some, None, unwrap_or}
use Rattle.syntect_theme.specs.declared.style.Color.{Color}
use Rattle.syntect_theme.specs.declared.style.FontStyle.{FontStyle}
use Rattle.syntect_theme.specs.declared.style.Style.{Style}
use Rattle.syntect_theme.specs.declared.style.StyleModifier.{StyleModifier}

-- the bits of flags
abbrev pub bits_of : FontStyle → ℕ
bits_of flags = flags.bits

-- a font without flags
abbrev pub no_flags : FontStyle
no_flags = record { bits = 0 }

-- black, opaque
abbrev pub black : Color
black = record { r = 0; g = 0; b = 0; a = 255 }

-- white, opaque
abbrev pub white : Color
white = record { r = 255; g = 255; b = 255; a = 255 }

-- black on white, without flags
abbrev pub plain_style : Style
plain_style = record { foreground = black; background = white; font_style = no_flags }

-- a style with the attributes that a modifier sets
abbrev pub restyled : StyleModifier → Style → Style
restyled m s = record {
  foreground = unwrap_or m.foreground s.foreground;
  background = unwrap_or m.background s.background;
  font_style = unwrap_or m.font_style s.font_style;
}

-- the first of two values that is there
abbrev pub first_some : {V : Type 0} → Option V → Option V → Option V
first_some (Some v) other = Some v
first_some None other = other

-- the change by one modifier and then by another, which goes first here
abbrev pub merged : StyleModifier → StyleModifier → StyleModifier
merged later m = record {
  foreground = first_some later.foreground m.foreground;
  background = first_some later.background m.background;
  font_style = first_some later.font_style m.font_style;
}

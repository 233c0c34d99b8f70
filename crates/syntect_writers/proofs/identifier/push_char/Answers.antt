use Rattle.std.proofs.Common.{◌≡◌, ◌++◌, List, ℕ, ap, sym, ◌∙◌, string_bytes, true}
use Rattle.std.proofs.lemmas.Str.Ascii.{encode_ascii}
use Rattle.syntect_writers.specs.Identifier.{needs_no_escape}
use Rattle.syntect_writers.proofs.IdentifierLaws.{stands_ascii, char_stands}
use Rattle.syntect_writers.proofs.identifier.push_char.Goals as goal

pub returns-then-needs_no_escape : goal.returns-then-needs_no_escape
returns-then-needs_no_escape c =
    let is : needs_no_escape c.args.first c.args.c ≡ true = sym c.needs_no_escape.ensures ∙ c.if-needs_no_escape.true in
    c.in_ok-push.ensures.bytes
    ∙ ap (λ (l : List ℕ). string_bytes c.args.out.now ++ l) (encode_ascii c.args.c (stands_ascii c.args.first c.args.c is) ∙ sym (char_stands c.args.first c.args.c is))

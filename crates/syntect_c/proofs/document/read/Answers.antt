use Rattle.std.proofs.Common.{◌≡◌, ◌<◌, ◌^◌, List, ℕ, subst, Bor}
use Rattle.syntect_assets.specs.syntect_theme.declared.style.Style.{Style}
use Rattle.syntect_c.specs.Spans.{all_bytes, spans_from}
use Rattle.syntect_c.proofs.document.read.Goals as goal

pub returns : goal.returns
returns c = record {
  answered = λ past is. record {
    pieces = c.in_ok-pieces.pieces;
    limit = c.in_ok-pieces.field-0-1;
    continues = c.in_ok-pieces.ensures.answered past is;
    spans_are = subst (λ (ps : List (Style × Bor (List ℕ))). all_bytes ps < 2 ^ 64
        → c.in_ok-spans_of.field-0.items ≡ spans_from 0 ps) c.as_slice.ensures.value c.in_ok-spans_of.ensures;
  };
}

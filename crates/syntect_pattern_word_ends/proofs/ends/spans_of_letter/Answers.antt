use Rattle.std.proofs.Common.{◌∙◌, ap, arith, Bool}
use Rattle.std.proofs.lemmas.Nat.{and_le_l}
use Rattle.syntect_pattern_word_ends.specs.syntect_pattern.Sets.{Set, from_to}
use Rattle.syntect_pattern_table.specs.Starts.{can_hold, is_in}
use Rattle.syntect_pattern_word_ends.proofs.WordLaws.{bits_tell, flags-in}
use Rattle.syntect_pattern_word_ends.proofs.ends.spans_of_letter.Goals as goal

pub returns : goal.returns
returns c x l =
    let letter : Set = from_to c.args.fold c.args.letter c.args.letter in
    let places = c.places_of_letter-read.result in
    let flags = flags-in places letter c.places_of_letter-read.ensures in
    let told = bits_tell c.args.blank letter places.ascii c.run_bits.result flags c.run_bits.ensures (omega (arith, and_le_l places.ascii c.run_bits.result)) in
    ap (λ (b : Bool). record { read = b; stay = is_in c.anywhere_if.result x }) (c.places_of_letter-read.ensures x l)
    ∙ ap (λ (b : Bool). record { read = can_hold letter x; stay = b }) (c.anywhere_if.ensures x ∙ told)

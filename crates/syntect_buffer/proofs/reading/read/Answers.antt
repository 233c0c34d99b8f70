use Rattle.std.proofs.Common.{false, sym, ◌∙◌, ap, subst, arith}
use Rattle.syntect_buffer.specs.syntect_parsing.States.{standing}
use Rattle.syntect_buffer.specs.Answers.{TellsOf}
use Rattle.syntect_buffer.specs.Kept.{IsReadFrom}
use Rattle.syntect_buffer.specs.declared.answer.LineAnswer.{LineAnswer}
use Rattle.syntect_buffer.specs.declared.states.LineStates.{LineStates}
use Rattle.syntect_buffer.proofs.LineLaws.{IsResumed, accepted_line, refused_line, unshown_line, limited_line, left_read}
use Rattle.syntect_buffer.proofs.ToldLaws.{reached_told, refusal_told}
use Rattle.syntect_buffer.proofs.reading.read.Goals as goal
use Rattle.syntect_buffer.proofs.reading.read.Goals.{in-Ok+in_ok-ranges_of-in-Ok, in-Err-Refused-ParsingError+in_ok-answer-in-Err-Refused-ParsingError, in-Err-Refused-ScopeError+in_ok-answer-in-Err-Refused-ScopeError, in-Err-LimitReached}

pub returns-clause-read : goal.returns-clause-read
returns-clause-read c =
    let set = c.args.set.now in
    let theme = c.args.theme.now in
    let before = c.args.before.now in
    let after : LineStates = record { styles = c.state-styles.result.0; reader = c.state-styles.result.1 } in
    let resumed : IsResumed set theme before c.in_ok-lines.lines =
    λ past k t p e f. c.in_ok-lines.ensures.leads past set k t p
    (e ∙ ap (λ (s : LineStates). s.styles) (sym c.states-states.ensures) ∙ sym c.in_ok-styles.ensures)
    (f ∙ ap (λ (s : LineStates). standing s.reader) (sym c.states-states.ensures) ∙ sym (ap standing c.in_ok-reader.ensures)) in
    let read : IsReadFrom set theme before c.args.line.now (record { answer = c.match-highlight_line_within.answer; after = after; ends_alike = false }) = elim c.match-highlight_line_within.branch [
      | in-Ok+in_ok-ranges_of-in-Ok w ↦ subst (λ (a : LineAnswer). IsReadFrom set theme before c.args.line.now (record { answer = a; after = after; ends_alike = false })) (sym w.answer-is)
          (accepted_line set theme before c.args.line c.in_ok-lines.lines c.highlight_line_within.new.self w.in-Ok.pieces w.in_ok-ranges_of-in-Ok.field-0 after resumed w.in-Ok.ensures.answered (rw w.as_slice.ensures.value at w.in_ok-ranges_of-in-Ok.ensures) (omega (arith, c.if-prove.false)) c.state-styles.ensures.highlight c.state-styles.ensures.parse)
      | in-Err-Refused-ParsingError+in_ok-answer-in-Err-Refused-ParsingError w ↦ subst (λ (a : LineAnswer). IsReadFrom set theme before c.args.line.now (record { answer = a; after = after; ends_alike = false })) (sym w.answer-is)
          (refused_line set theme before c.args.line c.in_ok-lines.lines c.highlight_line_within.new.self w.in-Err-Refused-ParsingError.e w.in_ok-answer-in-Err-Refused-ParsingError.answer after resumed (rw (w.in-Err-Refused-ParsingError.field-0-is, w.in-Err-Refused-ParsingError.field-0-0-is) at w.in-Err-Refused-ParsingError.ensures.answered) w.in_ok-answer-in-Err-Refused-ParsingError.ensures c.state-styles.ensures.highlight c.state-styles.ensures.parse)
      | in-Err-Refused-ScopeError+in_ok-answer-in-Err-Refused-ScopeError w ↦ subst (λ (a : LineAnswer). IsReadFrom set theme before c.args.line.now (record { answer = a; after = after; ends_alike = false })) (sym w.answer-is)
          (unshown_line set theme before c.args.line c.in_ok-lines.lines c.highlight_line_within.new.self w.in-Err-Refused-ScopeError.e _ after resumed (rw (w.in-Err-Refused-ScopeError.field-0-is, w.in-Err-Refused-ScopeError.field-0-0-is) at w.in-Err-Refused-ScopeError.ensures.answered))
      | in-Err-LimitReached w ↦ subst (λ (a : LineAnswer). IsReadFrom set theme before c.args.line.now (record { answer = a; after = after; ends_alike = false })) (sym w.answer-is)
          (limited_line set theme before c.args.line.now c.in_ok-lines.lines c.highlight_line_within.new.self w.in-Err-LimitReached.limit after
          (c.in_ok-lines.ensures.styles ∙ c.in_ok-styles.ensures ∙ ap (λ (s : LineStates). s.styles) c.states-states.ensures)
          (ap standing (c.in_ok-lines.ensures.reader ∙ c.in_ok-reader.ensures) ∙ ap (λ (s : LineStates). standing s.reader) c.states-states.ensures)
          w.in-Err-LimitReached.ensures.err c.state-styles.ensures.highlight c.state-styles.ensures.parse)
    ] in
    left_read set theme before c.args.line.now c.match-highlight_line_within.answer after c.in_ok-after.after c.in_ok-after.ends_alike read c.in_ok-after.ensures

pub returns-clause-told : goal.returns-clause-told
returns-clause-told c =
    let limits = c.args.limits.now in
    elim c.match-highlight_line_within.branch [
      | in-Ok+in_ok-ranges_of-in-Ok w ↦ subst (λ (a : LineAnswer). TellsOf limits a) (sym w.answer-is) tt
      | in-Err-Refused-ParsingError+in_ok-answer-in-Err-Refused-ParsingError w ↦ subst (λ (a : LineAnswer). TellsOf limits a) (sym w.answer-is)
          (refusal_told limits w.in-Err-Refused-ParsingError.e w.in_ok-answer-in-Err-Refused-ParsingError.answer w.in_ok-answer-in-Err-Refused-ParsingError.ensures)
      | in-Err-Refused-ScopeError+in_ok-answer-in-Err-Refused-ScopeError w ↦ subst (λ (a : LineAnswer). TellsOf limits a) (sym (w.answer-is ∙ w.in_ok-answer-in-Err-Refused-ScopeError.ensures)) tt
      | in-Err-LimitReached w ↦ subst (λ (a : LineAnswer). TellsOf limits a) (sym w.answer-is)
          (reached_told limits _ _ w.in-Err-LimitReached.limit (rw w.in-Err-LimitReached.field-0-is at w.in-Err-LimitReached.ensures.reached))
    ]

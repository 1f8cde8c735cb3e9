use Rattle.diagnostics.proofs.circle_words.words_of_circle.Goals as goal

pub returns : goal.returns
returns c = record {
  between = c.checked_circle-circle.result.now;
  circle = c.checked_circle-circle.ensures;
  text_is = c.in_ok-words.ensures;
}

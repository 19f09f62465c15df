use Rattle.std.proofs.Common.{◌≡◌, ◌<◌, length, arith, inl, inr, ap, ◌∙◌, of_calls}
use Rattle.cases.proofs.LineLaws.{answered_none, answered_more}
use Rattle.cases.proofs.answer_all.Goals as goal

pub loop-words-preserved : goal.loop-words-preserved
loop-words-preserved g c =
    let line = c.in-Some.ensures.line in
    let same : length c.loop-words.words.text.now ≡ length c.args.words.text.now = ap length c.loop-words.invariant.text in
    let more = c.has_more.ensures in
    let there : c.loop-words.words.at < length c.args.words.text.now = grind arith in
    record {
      callable = search of_calls;
      text = c.in-Some.ensures.text ∙ c.loop-words.invariant.text;
      all = λ A. c.loop-words.invariant.all (answered_more c.in-Some.line c.read.new.words.at c.answer.new.self there (rw c.loop-words.invariant.text at line) c.answer.ensures A);
    }

pub returns-in_default : goal.returns-in_default
returns-in_default g c = let full = c.in_default.ensures.full in c.loop-words.invariant.all (answered_none (inr (rw c.loop-words.invariant.text at full)))

pub returns : goal.returns
returns g c =
    let same : length c.loop-words.words.text.now ≡ length c.args.words.text.now = ap length c.loop-words.invariant.text in
    let inside = c.loop-words.words.inside in
    let more = c.has_more.ensures in
    let end : c.loop-words.words.at ≡ length c.args.words.text.now = grind arith in
    c.loop-words.invariant.all (answered_none (inl end))

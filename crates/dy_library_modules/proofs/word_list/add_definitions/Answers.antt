use Rattle.dy_library_modules.proofs.Adding.{word_more, last_word}
use Rattle.dy_library_modules.proofs.word_list.add_definitions.Goals as goal

pub returns : goal.returns
returns c =
    let old = c.args.words.now in
    let two = word_more old c.add.new.words c.add-2.new.words _ _ c.in_ok-add.ensures c.in_ok-add-2.ensures in
    let three = word_more old c.add-2.new.words c.add-3.new.words _ _ two c.in_ok-add-3.ensures in
    let four = word_more old c.add-3.new.words c.add-4.new.words _ _ three c.in_ok-add-4.ensures in
    let five = word_more old c.add-4.new.words c.add-5.new.words _ _ four c.in_ok-add-5.ensures in
    let six = word_more old c.add-5.new.words c.add-6.new.words _ _ five c.in_ok-add-6.ensures in
    let seven = word_more old c.add-6.new.words c.add-7.new.words _ _ six c.in_ok-add-7.ensures in
    let eight = word_more old c.add-7.new.words c.add-8.new.words _ _ seven c.in_ok-add-8.ensures in
    let nine = word_more old c.add-8.new.words c.add-9.new.words _ _ eight c.in_ok-add-9.ensures in
    let all = last_word c.add-10.result old c.add-9.new.words c.add-10.new.words _ _ nine c.add-10.ensures in
    all

use Rattle.tn_code.proofs.Growth.{grows-on}
use Rattle.tn_code.proofs.text.put_code.Goals as goal

pub returns-in_err-write_decimal : goal.returns-in_err-write_decimal
returns-in_err-write_decimal g c = grows-on c.args.out.now.items c.loop-place.out.items c.write_decimal.new.out.items c.loop-place.invariant c.write_decimal.ensures.grows

pub returns-in_err-put_instr : goal.returns-in_err-put_instr
returns-in_err-put_instr g c =
    grows-on c.args.out.now.items c.write_decimal.new.out.items c.put_instr.new.out.items
    (grows-on c.args.out.now.items c.loop-place.out.items c.write_decimal.new.out.items c.loop-place.invariant c.write_decimal.ensures.grows) c.put_instr.ensures

pub returns-in_err-put_text : goal.returns-in_err-put_text
returns-in_err-put_text g c =
    grows-on c.args.out.now.items c.put_instr.new.out.items c.put_text.new.out.items
    (grows-on c.args.out.now.items c.write_decimal.new.out.items c.put_instr.new.out.items
    (grows-on c.args.out.now.items c.loop-place.out.items c.write_decimal.new.out.items c.loop-place.invariant c.write_decimal.ensures.grows) c.put_instr.ensures) c.put_text.ensures

pub loop-place-preserved : goal.loop-place-preserved
loop-place-preserved g c =
    grows-on c.args.out.now.items c.put_instr.new.out.items c.put_text.new.out.items
    (grows-on c.args.out.now.items c.write_decimal.new.out.items c.put_instr.new.out.items
    (grows-on c.args.out.now.items c.loop-place.out.items c.write_decimal.new.out.items c.loop-place.invariant c.write_decimal.ensures.grows) c.put_instr.ensures) c.put_text.ensures

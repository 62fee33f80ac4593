use Rattle.std.proofs.lemmas.Result.{on_ok_weaker}
use Rattle.dhat_json.proofs.BegunTexts.{begun_more}
use Rattle.dhat_json.proofs.point_writer.PointWriter.put.Goals as goal

pub returns : goal.returns
returns c = record {
  more = on_ok_weaker c.put_point.result
      (λ added. λ dhat has. record {
        begun = begun_more c.args.self.now.out c.put_point.new.out dhat c.args.point.now has.begun added;
        times = has.times;
        texts = has.texts;
      })
      c.put_point.ensures;
}

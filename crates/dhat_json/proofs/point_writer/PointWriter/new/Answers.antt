use Rattle.std.proofs.Common.{refl, subst, sym}
use Rattle.std.specs.Prelude.{All, IsUtf8}
use Rattle.std.proofs.lemmas.List.Elements.{All-nil}
use Rattle.dhat_json.proofs.point_writer.PointWriter.new.Goals as goal

pub returns-in-Ok : goal.returns-in-Ok
returns-in-Ok c =
    let texts = c.requires.texts in
    record {
      begun = record {
        begun = c.in-Ok.ensures;
        times = refl;
        texts = record {
          mode = texts.mode;
          verb = texts.verb;
          bu = texts.bu;
          bsu = texts.bsu;
          bksu = texts.bksu;
          tu = texts.tu;
          mtu = texts.mtu;
          cmd = texts.cmd;
          ftbl = subst (All IsUtf8) (sym c.new-in-Ok.ensures.empty) (All-nil IsUtf8);
        };
      };
    }

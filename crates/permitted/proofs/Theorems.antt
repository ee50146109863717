-- Two results that meet the same equations are equal, part by part.
use mathlib.Core.Path.{◌≡◌, sym, ◌∙◌}
use Rattle.permitted.specs.Claims.{OneResult}

pub same : {A : Type 0} {x y a : A} → x ≡ a → y ≡ a → x ≡ y
same p q = p ∙ sym q

pub one-result : OneResult
one-result =
    record {
      called = λ held buf o x y p q j. (same p.number q.number j, same p.kept q.kept j, same p.stored q.stored j);
      set = λ held o x y p q j. (same p.number q.number j, same p.kept q.kept j);
      counted = λ n held buf out call x y p q j. (same p.number q.number j, same p.stored q.stored j, same p.told q.told j);
      resumed = λ buf len held chunks o x y p q j. (
        same p.number q.number j,
        same p.kept q.kept j,
        same p.count q.count j,
        same p.stored q.stored j,
      );
      resumed-counted = λ n buf len out x y p q j. (same p.number q.number j, same p.stored q.stored j, same p.told q.told j);
      stats = λ held out x y p q j. (same p.number q.number j, same p.told q.told j);
      fed = λ held fed x y p q j. (same p.number q.number j, same p.kept q.kept j);
      chan-read = λ body channels out answer x y p q j. (same p.number q.number j, same p.described q.described j, same p.told q.told j);
      overview-read = λ body channels out said x y p q j. (same p.number q.number j, same p.pairs q.pairs j, same p.told q.told j);
      wave-header = λ info labels payload buf out x y p q j. (same p.number q.number j, same p.stored q.stored j, same p.told q.told j);
      wave-plan = λ file buf out x y p q j. (same p.number q.number j, same p.stored q.stored j, same p.told q.told j);
      to-wave = λ file wave out x y p q j. (same p.number q.number j, same p.stored q.stored j, same p.told q.told j);
      compared = λ one two counts out x y p q j. (same p.number q.number j, same p.counted q.counted j, same p.told q.told j);
      samples-compared = λ one oneLittle two twoLittle counts out x y p q j. (same p.number q.number j, same p.counted q.counted j, same p.told q.told j);
    }

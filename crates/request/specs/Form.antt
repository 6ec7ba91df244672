-- What the words of a request come to. A word that isn't what was expected is at fault, and the first such word is named.
use Rattle.std.specs.Prelude.{Bool, cond, List, [], ◌∷◌, ℕ, ◌+◌, eqb, ltb, length, get_or, Option, Some, None, Result, Ok, Err, ⊤}
use Rattle.text.specs.Words.{split, word_of, index_in}
use Rattle.text.specs.Numerals.{number_of}
use Rattle.sample.specs.Depth.{most_depth, M}
use Rattle.meter.specs.declared.SampleKind.{SampleKind}
use Rattle.meter.specs.declared.SampleKind.TheVariants as kind
use Rattle.codes.specs.declared.label.CodeKind.{CodeKind}
use Rattle.setting.specs.declared.Call.{Call}
use Rattle.setting.specs.declared.Call.TheVariants.{Convert, Meter, ImageCheck}
use Rattle.setting.specs.declared.Way.{Way}
use Rattle.setting.specs.declared.Way.TheVariants.{Forward, Reverse}
use Rattle.request.specs.declared.Request.TheVariants as request
use Rattle.request.specs.declared.Request.{Request}
use Rattle.request.specs.declared.form.Fault.{Fault}
use Rattle.request.specs.declared.form.Expected.{Expected}
use Rattle.request.specs.declared.form.Expected.TheVariants.{Verb, Primaries, Transfer, Matrix, RgbDepth, YDepth, CDepth, RgbRange, YccRange}
use Rattle.request.specs.declared.form.Expected.TheVariants.{Red, Green, Blue, Luma, Cb, Cr, KindOrLuma, Code, NoMore}
use Rattle.sample.specs.declared.Pixel.{Pixel}
use Rattle.setting.specs.declared.Setting.{Setting}

-- the largest code or depth that a word may say, and the largest sample
abbrev pub largest_byte : ℕ
largest_byte = 255

abbrev pub largest_sample : ℕ
largest_sample = M most_depth

-- what is read next, where no word was at fault before: words are read from the first on, so the first fault that is met is the earliest
abbrev pub next : {A B : Type 0} → Result A ℕ → (A → Result B ℕ) → Result B ℕ
next (Ok a) f = f a
next (Err n) f = Err n

-- word n as a number, or n where it is none; a fault is the number of its word
abbrev pub taken : ℕ → Option ℕ → Result ℕ ℕ
taken n (Some v) = Ok v
taken n None = Err n

abbrev pub number_word : ℕ → List ℕ → ℕ → ℕ → Result ℕ ℕ
number_word gap s n most = taken n (number_of (word_of gap s n) most)

-- word n as a range, by its place among two names: 0 is narrow, 1 is full
abbrev pub range_taken : ℕ → Option ℕ → Result Bool ℕ
range_taken n (Some place) = cond (ltb place 2) (Ok (eqb place 1)) (Err n)
range_taken n None = Err n

abbrev pub range_word : ℕ → List ℕ → ℕ → List ℕ → List ℕ → Result Bool ℕ
range_word gap s n narrow full = range_taken n (index_in (word_of gap s n) (narrow ∷ full ∷ []))

-- no word n
abbrev pub end_of_words : ℕ → List ℕ → ℕ → Result ⊤ ℕ
end_of_words gap s n = cond (ltb n (length (split gap s))) (Err n) (Ok tt)

-- words 1 to 8, read by an edition
unfoldable pub setting_words : ℕ → ℕ → List ℕ → List ℕ → List ℕ → Result Setting ℕ
setting_words edition gap s narrow full =
    next (number_word gap s 1 largest_byte) (λ primaries.
    next (number_word gap s 2 largest_byte) (λ transfer.
    next (number_word gap s 3 largest_byte) (λ matrix.
    next (number_word gap s 4 largest_byte) (λ rgb.
    next (number_word gap s 5 largest_byte) (λ y.
    next (number_word gap s 6 largest_byte) (λ c.
    next (range_word gap s 7 narrow full) (λ rgb_full.
    next (range_word gap s 8 narrow full) (λ ycc_full.
    Ok (record {
      primaries = primaries;
      transfer = transfer;
      matrix = matrix;
      rgb_depth = rgb;
      y_depth = y;
      c_depth = c;
      rgb_full = rgb_full;
      ycc_full = ycc_full;
      edition = edition;
    })))))))))

-- words 9 to 11
unfoldable pub pixel_words : ℕ → List ℕ → Result Pixel ℕ
pixel_words gap s =
    next (number_word gap s 9 largest_sample) (λ a.
    next (number_word gap s 10 largest_sample) (λ b.
    next (number_word gap s 11 largest_sample) (λ c.
    Ok (record { p0 = a; p1 = b; p2 = c }))))

-- what is expected of each word, where the three after the setting are these
abbrev pub words_with : Expected → Expected → Expected → List Expected
words_with a b c = Verb ∷ Primaries ∷ Transfer ∷ Matrix ∷ RgbDepth ∷ YDepth ∷ CDepth ∷ RgbRange ∷ YccRange ∷ a ∷ b ∷ c ∷ []

abbrev pub expected_with : Expected → Expected → Expected → ℕ → Expected
expected_with a b c n = get_or (words_with a b c) n NoMore

-- the samples before a forward conversion are R, G, B, and Y, Cb, Cr before a reverse one
abbrev pub expected_before : Way → ℕ → Expected
expected_before Forward n = expected_with Red Green Blue n
expected_before Reverse n = expected_with Luma Cb Cr n

abbrev pub expected_at : Call → ℕ → Expected
expected_at (Convert w) n = expected_before w n
expected_at Meter n = expected_with KindOrLuma Cb Cr n
expected_at ImageCheck n = expected_before Reverse n

abbrev pub expected_sample : SampleKind → Expected
expected_sample kind.Y = Luma
expected_sample kind.Cb = Cb
expected_sample kind.Cr = Cr

-- the first word at fault, and what was expected of it
abbrev pub told : (ℕ → Expected) → Result Request ℕ → Result Request Fault
told expected (Ok r) = Ok r
told expected (Err n) = Err (record { word = n; expected = expected n })

-- a request about a pixel
abbrev pub pixel_read : Call → ℕ → ℕ → List ℕ → List ℕ → List ℕ → Result Request ℕ
pixel_read call edition gap s narrow full =
    next (setting_words edition gap s narrow full) (λ w.
    next (pixel_words gap s) (λ p.
    next (end_of_words gap s 12) (λ e.
    Ok (request.Pixel call w p))))

abbrev pub pixel_form : Call → ℕ → ℕ → List ℕ → List ℕ → List ℕ → Result Request Fault
pixel_form call edition gap s narrow full = told (expected_at call) (pixel_read call edition gap s narrow full)

-- a request about one sample, word n
abbrev pub sample_read : SampleKind → ℕ → ℕ → List ℕ → List ℕ → List ℕ → ℕ → Result Request ℕ
sample_read kind edition gap s narrow full n =
    next (setting_words edition gap s narrow full) (λ w.
    next (number_word gap s n largest_sample) (λ v.
    next (end_of_words gap s (n + 1)) (λ e.
    Ok (request.Sample kind w v))))

abbrev pub expected_alone : SampleKind → ℕ → ℕ → Expected
expected_alone kind n fault = cond (eqb fault n) (expected_sample kind) (expected_with NoMore NoMore NoMore fault)

abbrev pub sample_form : SampleKind → ℕ → ℕ → List ℕ → List ℕ → List ℕ → ℕ → Result Request Fault
sample_form kind edition gap s narrow full n = told (expected_alone kind n) (sample_read kind edition gap s narrow full n)

-- a request about a code, word n
abbrev pub label_read : CodeKind → ℕ → ℕ → List ℕ → ℕ → Result Request ℕ
label_read kind edition gap s n =
    next (number_word gap s n largest_byte) (λ v.
    next (end_of_words gap s (n + 1)) (λ e.
    Ok (request.Label kind edition v)))

abbrev pub expected_code : ℕ → ℕ → Expected
expected_code n fault = cond (eqb fault n) Code NoMore

abbrev pub label_form : CodeKind → ℕ → ℕ → List ℕ → ℕ → Result Request Fault
label_form kind edition gap s n = told (expected_code n) (label_read kind edition gap s n)

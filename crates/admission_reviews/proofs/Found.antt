-- The review of a value that is one.
use Rattle.std.proofs.Common.{◌≡◌, Bool, true, Option, Some, None, Result, Ok, ap, ◌∙◌, codes}
use Rattle.std.specs.Prelude.{if◌then◌else◌}
use Rattle.serde_json.specs.Data.{Data}
use Rattle.json_fields.specs.Path.{Path}
use Rattle.json_fields.specs.Reading.{required_at, some_of}
use Rattle.admission_reviews.specs.declared.review.Review.{Review}
use Rattle.admission_reviews.specs.Reviews.{request_of, is_review, review_of}

pub found : (d : Data) (review : Review) → is_review d ≡ true → required_at request_of (codes "request") d ≡ Ok review → review_of d ≡ Ok (Some review)
unfolding review_of
found d review is reads =
    let by : Bool → Result (Option Review) Path = λ b. if b then some_of (required_at request_of (codes "request") d) else Ok None in
    ap by is ∙ ap some_of reads

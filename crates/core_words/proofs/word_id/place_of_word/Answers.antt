use Rattle.std.proofs.Common.{◌≡◌, ◌<◌, Some, subst, rules}
use Rattle.core_words.specs.Place.{word_count as count_of, word_at as word_in}
use Rattle.core_words.proofs.PlaceLemmas.{place_of_word_within, word_at_place}
use Rattle.core_words.proofs.word_id.place_of_word.Goals as goal

pub returns-in-Vcpu-clause-within : goal.returns-in-Vcpu-clause-within
returns-in-Vcpu-clause-within c = subst (λ place. place < count_of c.args.shape.now) (search rules) (place_of_word_within c.args.shape.now c.args.word c.requires.shape c.requires.there)

pub returns-in-Vcpu-clause-inverse : goal.returns-in-Vcpu-clause-inverse
returns-in-Vcpu-clause-inverse c = subst (λ place. word_in c.args.shape.now place ≡ Some c.args.word) (search rules) (word_at_place c.args.shape.now c.args.word c.requires.shape c.requires.there)

pub returns-in-Index-clause-within : goal.returns-in-Index-clause-within
returns-in-Index-clause-within c = subst (λ place. place < count_of c.args.shape.now) (search rules) (place_of_word_within c.args.shape.now c.args.word c.requires.shape c.requires.there)

pub returns-in-Index-clause-inverse : goal.returns-in-Index-clause-inverse
returns-in-Index-clause-inverse c = subst (λ place. word_in c.args.shape.now place ≡ Some c.args.word) (search rules) (word_at_place c.args.shape.now c.args.word c.requires.shape c.requires.there)

mod Elimination
mod LogLaws
mod LiteralsOver
mod ReadableValues
mod OneAnswer
mod FileLaws

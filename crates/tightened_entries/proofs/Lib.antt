mod Reading
mod OneByOne
